-- What the writers go by: the loop of `form::list`, and the runs of writes. Assumes nothing.
use Prim.Native.Nat.{ℕ, ◌+◌, ◌≤◌, ◌<◌}
use mathlib.Core.Path.{◌≡◌, sym, ap, ap₂, ◌∙◌, subst}
use mathlib.Core.List.{List, [], ◌∷◌, ◌++◌, append_assoc, map}
use native.Mathlib.Omega.{arith}
use lib.ListN.{length, take, drop, get_or, length-append, drop_of_length-le, length-map}
use lib.Seq.{length-take-le}
use Rattle.std.specs.Prelude.{Option, Some, None, Result, Ok, Err}
use Rattle.std.specs.Result.{IsErr, IsErrAnd}
use Rattle.wire.specs.Answer.{choose, Answer, done, refused}
use Rattle.wire.specs.Over.{over}
use Rattle.wire.specs.Writing.{outcome, Written}
use Rattle.wire.specs.Refusal.{number}
use Rattle.wire.specs.declared.Refusal.{Refusal}
use Rattle.wire.specs.declared.Refusal.TheVariants.{NoRoom}
use Rattle.wire.proofs.Answers.{err_is}
use Rattle.wire.proofs.Overs.{over_none}
use Rattle.wire.proofs.Cases.{done_value, then_done}
use Rattle.wire.proofs.Writes.{written, no_room, denied}
use Rattle.wire.specs.declared.Span.{Span}
use Rattle.wire.specs.Span.{part_at}
use Rattle.cbor.specs.Form.{head_of, string_of, float_of, number_field_of}
use Rattle.wire.specs.Ascii.{ascii}
use Rattle.cbor.specs.Put.{Put}
use Rattle.cbor.proofs.Runs.{Left, left_all, left_on, left_last, put_fits}
use Rattle.entry.specs.Writing.{entry_in, integer_of, file_verdict, form_of}
use Rattle.entry.specs.declared.File.{File}
use Rattle.entry.specs.declared.Integer.{Integer}
use Rattle.entry.proofs.Writers.{outcome_done, outcome_refused}
use Rattle.manifest.specs.Writing.{seed_in, said_in, secret_of, entries_of, created_of, said_of, manifest_of, files_verdict, listed, manifest_verdict}
use Rattle.manifest.specs.Private.{seed_field_of, created_field_of, opening_of, closing_of, Room, Ready}
use Rattle.manifest.specs.declared.Created.{Created}
use Rattle.manifest.specs.declared.Created.TheVariants as created
use Rattle.manifest.specs.declared.Manifest.{Manifest}
use Rattle.manifest.proofs.Judging.{good_files, file_next}
use Rattle.manifest.proofs.Lengths.{Fit, verdict_fit}

-- ---- the loop

-- after i files: those that are left are judged, and still to be written at p
pub record Laying (pool : List ℕ) (fs : List File) (at : ℕ) (x y : List ℕ) (i p : ℕ) (last : Span) : Type 0 where
  pub rest : List ℕ
  pub judged : files_verdict pool (part_at pool last) (drop i fs) ≡ done rest
  pub left : Left at (form_of (files_verdict pool [] fs)) x y p rest

module _ (pool : List ℕ) (fs : List File) (at : ℕ) (x y : List ℕ) (i p : ℕ) (last : Span) (h : Laying pool fs at x y i p last) where
  pub lay_end : at + length (form_of (files_verdict pool [] fs)) ≤ length x → length fs ≤ i → Put at (form_of (files_verdict pool [] fs)) x y p
  unfolding files_verdict
  lay_end room l =
      let z : drop i fs ≡ [] = drop_of_length-le fs {i = i} l in
      let r : h.rest ≡ [] = sym (done_value (ap (files_verdict pool (part_at pool last)) (sym z) ∙ h.judged)) in
      let q : Left at (form_of (files_verdict pool [] fs)) x y p [] = subst (λ (r : List ℕ). Left at (form_of (files_verdict pool [] fs)) x y p r) r h.left in
      put_fits at (form_of (files_verdict pool [] fs)) x y p room (sym (over_none p y) ∙ q.whole) (omega (arith, q.ends))

  pub lay_more : i < length fs → (d : File) (prev : List ℕ) → prev ≡ part_at pool last → (z : List ℕ) (q : ℕ) → Put p (form_of (file_verdict pool prev (get_or fs i d))) y z q
      → Laying pool fs at x z (i + 1) q (get_or fs i d).path
  unfolding files_verdict form_of
  lay_more l d prev e z q w =
      let f : File = get_or fs i d in
      let v = ap (files_verdict pool (part_at pool last)) (sym (file_next fs i d l)) ∙ h.judged in
      let a = then_done (file_verdict pool (part_at pool last) f) _ v in
      let b = then_done (files_verdict pool (part_at pool f.path) (drop (i + 1) fs)) _ a.2 in
      let r : h.rest ≡ a.0 ++ b.0 = sym (done_value b.2) in
      let u : Put p a.0 y z q = subst (λ (v : Answer (List ℕ)). Put p (form_of v) y z q) (ap (λ (k : List ℕ). file_verdict pool k f) e ∙ a.1) w in
      let t : Left at (form_of (files_verdict pool [] fs)) x y p (a.0 ++ b.0) = subst (λ (r : List ℕ). Left at (form_of (files_verdict pool [] fs)) x y p r) r h.left in
      record { rest = b.0; judged = b.1; left = left_on t u }

-- ---- a key and its value

module _ (pool : List ℕ) (v : Option Span) (at : ℕ) (x : List ℕ) (l : at + length (seed_field_of pool v) ≤ length x) (a : ℕ) (y : List ℕ) (w : Put at (string_of 3 (ascii "seed")) x y a) (z : List ℕ) (r : ℕ) where
  seed_run : Put a (secret_of (seed_in pool v)) y z r → Put at (seed_field_of pool v) x z r
  unfolding seed_field_of
  seed_run u = left_last l (left_on (left_all at (string_of 3 (ascii "seed") ++ secret_of (seed_in pool v)) x l) w) u

  pub null_run : v ≡ None → Put a (0xF6 ∷ []) y z r → Put at (seed_field_of pool v) x z r
  unfolding secret_of seed_in
  null_run e u = seed_run (rw e u)

  pub bytes_run : (span : Span) (bs : List ℕ) → v ≡ Some span → bs ≡ part_at pool span → Put a (string_of 2 bs) y z r → Put at (seed_field_of pool v) x z r
  unfolding secret_of seed_in
  bytes_run span bs e p u = seed_run (rw (e, ← p) u)

module _ (v : Created) (at : ℕ) (x : List ℕ) (l : at + length (created_field_of v) ≤ length x) (a : ℕ) (y : List ℕ) (w : Put at (string_of 3 (ascii "created")) x y a) (z : List ℕ) (r : ℕ) where
  created_run : Put a (created_of v) y z r → Put at (created_field_of v) x z r
  unfolding created_field_of
  created_run u = left_last l (left_on (left_all at (string_of 3 (ascii "created") ++ created_of v) x l) w) u

  pub integer_run : (i : Integer) → v ≡ created.Integer i → Put a (integer_of i.negative i.n) y z r → Put at (created_field_of v) x z r
  unfolding created_of
  integer_run i e u = created_run (rw e u)

  pub double_run : (bits : ℕ) → v ≡ created.Double bits → Put a (float_of bits) y z r → Put at (created_field_of v) x z r
  unfolding created_of
  double_run bits e u = created_run (rw e u)

-- ---- before and after the files

module _ (pool : List ℕ) (m : Manifest) (x : List ℕ) (l : length (opening_of pool m) ≤ length x) (a : ℕ) (x₁ : List ℕ) (w₁ : Put 0 (0xA5 ∷ []) x x₁ a) where
  opening_left : Left 0 (opening_of pool m) x x₁ a (seed_field_of pool m.seed ++ (string_of 3 (ascii "files") ++ head_of 4 m.count))
  unfolding opening_of
  opening_left = left_on (left_all 0 (opening_of pool m) x (omega arith)) w₁

  pub seed_room : a + length (seed_field_of pool m.seed) ≤ length x₁
  seed_room = omega (arith, opening_left.room, length-append (seed_field_of pool m.seed) (string_of 3 (ascii "files") ++ head_of 4 m.count))

  pub opening_run : (b c r : ℕ) (x₂ x₃ z : List ℕ) → Put a (seed_field_of pool m.seed) x₁ x₂ b → Put b (string_of 3 (ascii "files")) x₂ x₃ c → Put c (head_of 4 m.count) x₃ z r
      → Put 0 (opening_of pool m) x z r
  opening_run b c r x₂ x₃ z w₂ w₃ w₄ = left_last (omega arith) (left_on (left_on opening_left w₂) w₃) w₄

module _ (m : Manifest) (at : ℕ) (x : List ℕ) (l : at + length (closing_of m) ≤ length x) (a b : ℕ) (x₁ x₂ : List ℕ) (w₁ : Put at (string_of 3 (ascii "sealed")) x x₁ a)
    (w₂ : Put a (choose m.sealed 0xF5 0xF4 ∷ []) x₁ x₂ b) where
  closing_left : Left at (closing_of m) x x₂ b (created_field_of m.created ++ number_field_of (ascii "version") 1)
  unfolding closing_of
  closing_left = left_on (left_on (left_all at (closing_of m) x l) w₁) w₂

  pub created_room : b + length (created_field_of m.created) ≤ length x₂
  created_room = omega (arith, closing_left.room, length-append (created_field_of m.created) (number_field_of (ascii "version") 1))

  pub closing_run : (c r : ℕ) (x₃ z : List ℕ) → Put b (created_field_of m.created) x₂ x₃ c → Put c (number_field_of (ascii "version") 1) x₃ z r → Put at (closing_of m) x z r
  closing_run c r x₃ z w₃ w₄ = left_last l (left_on closing_left w₃) w₄

-- ---- the whole

module _ (pool : List ℕ) (m : Manifest) (x : List ℕ) (h : Ready pool m x) where
  fit : Fit pool m
  fit = (verdict_fit pool m h.judged).0

  files_form : form_of (files_verdict pool [] (take m.count m.files)) ≡ entries_of (map (entry_in pool) (take m.count m.files))
  unfolding form_of
  files_form = ap form_of (good_files pool [] (take m.count m.files) fit.filed)

  count_is : length (map (entry_in pool) (take m.count m.files)) ≡ m.count
  count_is = length-map (take m.count m.files) (entry_in pool) ∙ length-take-le m.count m.files (omega (arith, h.array, fit.few))

  -- the forms in the order of the writes
  forms : manifest_of pool (listed m) ≡ opening_of pool m ++ (form_of (files_verdict pool [] (take m.count m.files)) ++ closing_of m)
  unfolding manifest_of said_of said_in listed seed_field_of created_field_of opening_of closing_of
  forms =
      ap₂ (λ (n : ℕ) (es : List ℕ). (0xA5 ∷ []) ++ (seed_field_of pool m.seed ++ (string_of 3 (ascii "files") ++ (head_of 4 n ++ (es ++ closing_of m)))))
      count_is (sym files_form)
      ∙ sym (simp append_assoc)

  fits : 0 + length (opening_of pool m ++ (form_of (files_verdict pool [] (take m.count m.files)) ++ closing_of m)) ≤ length x
  fits = omega (arith, h.room, ap length forms)

  pub opening_room : length (opening_of pool m) ≤ length x
  opening_room = omega (arith, fits, length-append (opening_of pool m) (form_of (files_verdict pool [] (take m.count m.files)) ++ closing_of m))

  module _ (a : ℕ) (y : List ℕ) (v : Put 0 (opening_of pool m) x y a) where
    list_left : Left 0 (opening_of pool m ++ (form_of (files_verdict pool [] (take m.count m.files)) ++ closing_of m)) x y a (form_of (files_verdict pool [] (take m.count m.files)) ++ closing_of m)
    list_left = left_on (left_all 0 (opening_of pool m ++ (form_of (files_verdict pool [] (take m.count m.files)) ++ closing_of m)) x fits) v

    pub list_room : Room pool m a y (form_of (files_verdict pool [] (take m.count m.files)))
    list_room =
        record {
          few = fit.few;
          array = h.array;
          judged = good_files pool [] (take m.count m.files) fit.filed ∙ ap done (sym files_form);
          room = omega (arith, list_left.room, length-append (form_of (files_verdict pool [] (take m.count m.files))) (closing_of m));
        }

    module _ (b : ℕ) (z : List ℕ) (w : Put a (form_of (files_verdict pool [] (take m.count m.files))) y z b) where
      pub closing_room : b + length (closing_of m) ≤ length z
      closing_room = (left_on list_left w).room

      pub whole_run : (u : List ℕ) (r : ℕ) → Put b (closing_of m) z u r → u ≡ over 0 (manifest_of pool (listed m)) x
      whole_run u r k = (left_last fits (left_on list_left w) k).output ∙ ap (λ (l : List ℕ). over 0 l x) (sym forms)

-- ---- `write`

module _ (v : Answer (List ℕ)) (x : List ℕ) where
  pub write_refused : (r : Result ℕ Refusal) (w : Refusal) → IsErr r × IsErrAnd r (λ x. x ≡ w) → refused (number w) ≡ outcome v → Written 0 v x x r
  write_refused r w h e = rw (err_is r w h, outcome_refused v (number w) 0 e) (denied 0 x w)

  pub write_short : (n : ℕ) → done n ≡ outcome v → length x < n → Written 0 v x x (Err NoRoom)
  write_short n e l = let d = outcome_done v n e in rw d.1 (no_room 0 x d.0 (omega (arith, d.2)))

module _ (pool : List ℕ) (m : Manifest) (n : ℕ) (e : done n ≡ outcome (manifest_verdict pool m)) (x : List ℕ) (l : n ≤ length x) where
  judged : manifest_verdict pool m ≡ done (manifest_of pool (listed m))
  judged = let d = outcome_done (manifest_verdict pool m) n e in d.1 ∙ ap done (verdict_fit pool m d.1).1

  long : length (manifest_of pool (listed m)) ≡ n
  long = let d = outcome_done (manifest_verdict pool m) n e in ap length (sym (verdict_fit pool m d.1).1) ∙ d.2

  pub write_ready : length m.files ≡ 64 → Ready pool m x
  write_ready array = record { array = array; judged = judged; room = omega (arith, long) }

  pub write_done : (z : List ℕ) → z ≡ over 0 (manifest_of pool (listed m)) x → Written 0 (manifest_verdict pool m) x z (Ok n)
  write_done z o = rw judged (written 0 x (manifest_of pool (listed m)) z n (omega (arith, long)) (sym long) o)
