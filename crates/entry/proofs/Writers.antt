-- What the writers do, over plain lists: which files are judged good, and the run of writes.
-- Assumes nothing.
use Prim.Native.Nat.{ℕ, ◌+◌, ◌-◌, ◌≤◌, ◌<◌}
use mathlib.Core.Path.{◌≡◌, refl, sym, ap, ◌∙◌}
use mathlib.Core.Bool.{Bool, true, false, not, ◌&&◌}
use mathlib.Core.List.{List, [], ◌∷◌, ◌++◌}
use native.Mathlib.Omega.{arith}
use borrow.Author.Tests.{leb-true, eqb-true, le-leb, lt-leb, eq-eqb}
use lib.Dec.{leb, eqb}
use lib.ListN.{length}
use Rattle.std.specs.Prelude.{Option, Some, None, Result, Ok, Err}
use Rattle.wire.specs.Answer.{choose, Answer, done, refused_at, refused}
use Rattle.wire.specs.Writing.{told, outcome}
use Rattle.wire.specs.Refusal.{number}
use Rattle.wire.specs.declared.Refusal.{Refusal}
use Rattle.wire.proofs.Cases.{both_hold, said_yes, passed, not_done, done_value}
use Rattle.wire.proofs.Overs.{over_none, over_out}
use Rattle.wire.specs.declared.Span.{Span}
use Rattle.wire.specs.Span.{part_at}
use Rattle.path.specs.Order.{below}
use Rattle.path.specs.Path.{path_most, path_allowed}
use Rattle.path.proofs.Paths.{allowed_length}
use Rattle.cbor.specs.Form.{string_of, string_field_of, number_field_of}
use Rattle.wire.specs.Ascii.{ascii}
use Rattle.cbor.specs.Put.{past, Put}
use Rattle.cbor.proofs.Runs.{Left, left_all, left_on, left_last, put_none}
use Rattle.entry.specs.Writing.{entry_in, entry_of, file_of, integer_of, mtime_of, held, digest_in, path_in, mtime_allowed, file_verdict, form_of}
use Rattle.entry.specs.Private.{mtime_field_of, file_size}
use Rattle.entry.specs.declared.Integer.{Integer}
use Rattle.entry.specs.declared.File.{File}
use Rattle.entry.proofs.Sizes.{part_length, file_length, file_most}

-- ---- what the tests say

pub held_within : (pool : List ℕ) (p : Span) → held pool p ≡ true → p.start + p.len ≤ length pool
unfolding held
held_within pool p h = leb-true (p.start + p.len) (length pool) h

pub within_held : (pool : List ℕ) (p : Span) → p.start + p.len ≤ length pool → held pool p ≡ true
unfolding held
within_held pool p h = le-leb (p.start + p.len) (length pool) h

pub digest_within : (pool : List ℕ) (p : Span) → digest_in pool p ≡ true → (p.start + p.len ≤ length pool) × (p.len ≡ 32)
unfolding digest_in
digest_within pool p h =
    let b = both_hold (held pool p) (eqb p.len 32) h in
    (held_within pool p b.0, eqb-true p.len 32 b.1)

pub within_digest : (pool : List ℕ) (p : Span) → p.start + p.len ≤ length pool → p.len ≡ 32 → digest_in pool p ≡ true
unfolding digest_in
within_digest pool p h l = rw (within_held pool p h) (eq-eqb p.len 32 l)

pub record Named (pool prev : List ℕ) (p : Span) : Type 0 where
  pub within : p.start + p.len ≤ length pool
  pub permitted : path_allowed (part_at pool p) ≡ true
  pub above : below prev (part_at pool p) ≡ true

pub path_named : (pool prev : List ℕ) (p : Span) → path_in pool prev p ≡ true → Named pool prev p
unfolding path_in
path_named pool prev p h =
    let b = both_hold (held pool p) (path_allowed (part_at pool p) && below prev (part_at pool p)) h in
    let d = both_hold (path_allowed (part_at pool p)) (below prev (part_at pool p)) b.1 in
    record { within = held_within pool p b.0; permitted = d.0; above = d.1 }

pub named_path : (pool prev : List ℕ) (p : Span) → Named pool prev p → path_in pool prev p ≡ true
unfolding path_in
named_path pool prev p n = rw (within_held pool p n.within, n.permitted) n.above

pub named_length : (pool prev : List ℕ) (p : Span) → Named pool prev p → p.len ≤ path_most
named_length pool prev p n = omega (arith, part_length pool p n.within, (allowed_length (part_at pool p) n.permitted).1)

-- the values of a file that may be written
pub record Good (pool prev : List ℕ) (f : File) : Type 0 where
  pub hash_within : f.hash.start + f.hash.len ≤ length pool
  pub hash_long : f.hash.len ≡ 32
  pub named : Named pool prev f.path
  pub sized : f.size ≤ 4294967295
  pub dated : mtime_allowed f.mtime ≡ true

module _ (pool prev : List ℕ) (f : File) where
  pub verdict_good : {bs : List ℕ} → file_verdict pool prev f ≡ done bs → Good pool prev f × (bs ≡ file_of pool f)
  unfolding file_verdict
  verdict_good h =
      let a = passed (digest_in pool f.hash) _ 19 h in
      let b = passed (path_in pool prev f.path) _ 20 a.1 in
      let c = passed (leb f.size 4294967295) _ 19 b.1 in
      let d = passed (mtime_allowed f.mtime) _ 19 c.1 in
      let w = digest_within pool f.hash a.0 in (
        record {
          hash_within = w.0;
          hash_long = w.1;
          named = path_named pool prev f.path b.0;
          sized = leb-true f.size 4294967295 c.0;
          dated = d.0;
        },
        sym (done_value d.1),
      )

  pub good_verdict : Good pool prev f → file_verdict pool prev f ≡ done (file_of pool f)
  unfolding file_verdict
  good_verdict g =
      rw (
        within_digest pool f.hash g.hash_within g.hash_long,
        named_path pool prev f.path g.named,
        le-leb f.size 4294967295 g.sized,
        g.dated,
      )

  pub good_length : Good pool prev f → (length (file_of pool f) ≡ file_size f) × (file_size f ≤ 300)
  good_length g =
      (file_length pool f g.hash_within g.hash_long g.named.within, file_most f (named_length pool prev f.path g.named))

-- ---- `judge`

module _ (pool prev : List ℕ) (f : File) (e : Bool) (q : e ≡ path_in pool prev f.path) (y : not e ≡ false) where
  pub judged_path : f.path.len ≤ path_most
  judged_path = named_length pool prev f.path (path_named pool prev f.path (said_yes e _ q y))

  pub judge_done : (d t : Bool) (n : ℕ) → d ≡ digest_in pool f.hash → not d ≡ false → f.size ≤ 4294967295 → t ≡ mtime_allowed f.mtime → not t ≡ false → n ≡ file_size f
      → done n ≡ outcome (file_verdict pool prev f)
  judge_done d t n p x z r w k =
      let h = digest_within pool f.hash (said_yes d _ p x) in
      let g : Good pool prev f =
      record { hash_within = h.0; hash_long = h.1; named = path_named pool prev f.path (said_yes e _ q y); sized = z; dated = said_yes t _ r w } in
      ap done (k ∙ sym (good_length pool prev f g).0) ∙ ap outcome (sym (good_verdict pool prev f g))

-- ---- what an answer says of its verdict

module _ (v : Answer (List ℕ)) where
  pub outcome_done : (n : ℕ) → done n ≡ outcome v → (bs : List ℕ) × (v ≡ done bs) × (length bs ≡ n)
  outcome_done n = go v
    where
      go : (v : Answer (List ℕ)) → done n ≡ outcome v → (bs : List ℕ) × (v ≡ done bs) × (length bs ≡ n)
      go (done bs) e = (bs, refl, sym (done_value e))
      go (refused_at f place) e = not_done (sym e)

  pub outcome_refused : (w k : ℕ) → refused_at w k ≡ outcome v → v ≡ refused_at w k
  outcome_refused w k = go v
    where
      go : (v : Answer (List ℕ)) → refused_at w k ≡ outcome v → v ≡ refused_at w k
      go (done bs) e = not_done e
      go (refused_at f place) e = cc

  done_verdict : (j : Result ℕ Refusal) (n : ℕ) → told j ≡ outcome v → j ≡ Ok n → (bs : List ℕ) × (v ≡ done bs) × (length bs ≡ n)
  done_verdict j n e k = outcome_done n (ap told (sym k) ∙ e)

  refused_verdict : (j : Result ℕ Refusal) (w : Refusal) → told j ≡ outcome v → j ≡ Err w → v ≡ refused (number w)
  refused_verdict j w e k = outcome_refused (number w) 0 (ap told (sym k) ∙ e)

-- ---- `file`

put_nothing : (at : ℕ) (x : List ℕ) → Put at [] x x at
unfolding past
put_nothing at x = record { answer = pick (leb (at + 0) (length x)); output = sym (over_none at x) }
  where
    pick : (t : Bool) → at ≡ choose t (at + 0) at
    pick true = omega arith
    pick false = refl

put_past : (at : ℕ) (bs x : List ℕ) → length x < at → Put at bs x x at
unfolding past
put_past at bs x h =
    let l : length x < at + length bs = omega arith in
    record { answer = rw (lt-leb (at + length bs) (length x) l); output = sym (over_out at bs x l) }

module _ (v : Answer (List ℕ)) (j : Result ℕ Refusal) (e : told j ≡ outcome v) (at : ℕ) (x : List ℕ) where
  pub put_refused : (n : Refusal) → j ≡ Err n → Put at (form_of v) x x at
  unfolding form_of
  put_refused n k = rw (refused_verdict v j n e k) (put_nothing at x)

  pub put_outside : length x < at → Put at (form_of v) x x at
  put_outside h = put_past at (form_of v) x h

  pub put_short : (n : ℕ) → j ≡ Ok n → length x - at < n → Put at (form_of v) x x at
  unfolding form_of
  put_short n k h = let d = done_verdict v j n e k in rw d.1 (put_none at d.0 x (omega (arith, d.2)))

module _ (pool prev : List ℕ) (f : File) (j : Result ℕ Refusal) (e : told j ≡ outcome (file_verdict pool prev f)) (n : ℕ) (k : j ≡ Ok n) (at : ℕ) (x : List ℕ) where
  pub file_room : at ≤ length x → n ≤ length x - at → at + length (file_of pool f) ≤ length x
  file_room a b =
      let d = done_verdict (file_verdict pool prev f) j n e k in
      let g = verdict_good pool prev f d.1 in
      omega (arith, ap length g.1, d.2)

  pub file_put : (z : List ℕ) (r : ℕ) → Put at (file_of pool f) x z r → Put at (form_of (file_verdict pool prev f)) x z r
  unfolding form_of
  file_put z r w =
      let d = done_verdict (file_verdict pool prev f) j n e k in
      rw (d.1, (verdict_good pool prev f d.1).1) w

-- ---- the runs of writes

module _ (t : Option Integer) (at : ℕ) (x : List ℕ) (l : at + length (mtime_field_of t) ≤ length x) (a : ℕ) (y : List ℕ) (v : Put at (string_of 3 (ascii "mtime")) x y a) (z : List ℕ) (r : ℕ) where
  mtime_run : Put a (mtime_of t) y z r → Put at (mtime_field_of t) x z r
  unfolding mtime_field_of
  mtime_run w = left_last l (left_on (left_all at (string_of 3 (ascii "mtime") ++ mtime_of t) x l) v) w

  pub null_run : t ≡ None → Put a (0xF6 ∷ []) y z r → Put at (mtime_field_of t) x z r
  unfolding mtime_of
  null_run e w = mtime_run (rw e w)

  pub integer_run : (v : Integer) → t ≡ Some v → Put a (integer_of v.negative v.n) y z r → Put at (mtime_field_of t) x z r
  unfolding mtime_of
  integer_run v e w = mtime_run (rw e w)

module _ (pool : List ℕ) (f : File) (at : ℕ) (x : List ℕ) (l : at + length (file_of pool f) ≤ length x) (hash path : List ℕ) (h : hash ≡ part_at pool f.hash) (p : path ≡ part_at pool f.path)
    (a b c d : ℕ) (x₁ x₂ x₃ x₄ : List ℕ) (w₁ : Put at (0xA4 ∷ []) x x₁ a) (w₂ : Put a (string_field_of (ascii "hash") 2 hash) x₁ x₂ b)
    (w₃ : Put b (string_field_of (ascii "path") 3 path) x₂ x₃ c) (w₄ : Put c (number_field_of (ascii "size") f.size) x₃ x₄ d) where
  run_left : Left at (file_of pool f) x x₄ d (mtime_field_of f.mtime)
  unfolding file_of entry_of entry_in mtime_field_of
  run_left =
      let v₂ : Put a (string_field_of (ascii "hash") 2 (part_at pool f.hash)) x₁ x₂ b = rw (← h) w₂ in
      let v₃ : Put b (string_field_of (ascii "path") 3 (part_at pool f.path)) x₂ x₃ c = rw (← p) w₃ in
      left_on (left_on (left_on (left_on (left_all at (file_of pool f) x l) w₁) v₂) v₃) w₄

  pub run_room : d + length (mtime_field_of f.mtime) ≤ length x₄
  run_room = run_left.room

  pub run_done : (z : List ℕ) (r : ℕ) → Put d (mtime_field_of f.mtime) x₄ z r → Put at (file_of pool f) x z r
  run_done z r w = left_last l run_left w
