-- A session's steps, over plain values. Assumes nothing.
use Prim.Native.Nat.{ℕ, ◌+◌, ◌-◌, ◌≤◌, ◌<◌}
use mathlib.Core.Path.{◌≡◌, refl, sym, ap, ap₂, ◌∙◌}
use mathlib.Core.List.{List, [], ◌∷◌}
use native.Mathlib.Nat.{sub-zero}
use native.Mathlib.Numerals.{add-one}
use native.Mathlib.Omega.{arith}
use borrow.Author.Tests.{eq-eqb, ne_eqb, le-leb, lt-leb, lt-ltb, le-ltb}
use lib.ListN.{length, take, drop, get_or, drop_of_length-le}
use lib.Seq.{drop-cons}
use Rattle.wire.specs.Over.{over}
use Rattle.wire.specs.Answer.{Answer, done, refused_at, Kept}
use Rattle.wire.specs.Writing.{Written, writing}
use Rattle.std.specs.Prelude.{Result, Ok, Err}
use Rattle.wire.specs.declared.Refusal.{Refusal}
use Rattle.digits.specs.Decimal.{refused_line}
use Rattle.collection.specs.Collection.{opening}
use Rattle.status.specs.Line.{status_line}
use Rattle.scan.specs.Id.{id_verdict}
use Rattle.scan.specs.Session.{scanned, At, line_of, started, ended, longer, next, fed, closed, reported, at}
use Rattle.scan.specs.declared.session.Session.{Session}
use Rattle.scan.proofs.Scans.{id_refused, id_read}

abbrev now : ℕ → ℕ → Session
now phase len = record { phase = phase; len = len }

-- ---- the line so far

module _ (s : Session) (line : List ℕ) where
  pub line_there : s.len ≤ length line → take (s.len - 0) line ≡ line_of (at s line [])
  unfolding line_of
  line_there h = rw (le-leb s.len (length line) h, sub-zero s.len)

  pub line_none : length line < s.len → [] ≡ line_of (at s line [])
  unfolding line_of
  line_none h = rw (lt-leb s.len (length line) h)

-- ---- a line ends

module _ (s : Session) (first c x y : List ℕ) (k : length x ≡ 8) (r : Result ℕ Refusal) (w : Written 0 (id_verdict first) x y r) where
  pub start_refused : (e : Refusal) → r ≡ Err e → at (now 2 0) [] c ≡ started (at s [] c) (id_verdict first)
  start_refused e h = sym (ap (started (at s [] c)) (id_refused first x y k r w e h))

  pub start_open : (n : ℕ) → r ≡ Ok n → (a : Answer Unit) (z : List ℕ) → Kept (opening y c) c z a → at (now 1 0) [] z ≡ started (at s [] c) (id_verdict first)
  start_open n h a z q =
      ap (at (now 1 0) []) q.bytes ∙ sym (ap (started (at s [] c)) (id_read first x y k r w n h))

module _ (s : Session) (line c : List ℕ) where
  -- what `start` says of a session without its line buffer, said with it
  started_with : (v : Answer (List ℕ)) (r : Session) (z : List ℕ) → at r [] z ≡ started (at s [] c) v → at r line z ≡ started (at s line c) v
  started_with (done id) r z e =
      ap (λ (t : At). record { phase = t.phase; len = t.len; line = line; collection = t.collection }) e
  started_with (refused_at f place) r z e =
      ap (λ (t : At). record { phase = t.phase; len = t.len; line = line; collection = t.collection }) e

  -- the line so far does not depend on the collection
  same_line : line_of (at s line []) ≡ line_of (at s line c)
  unfolding line_of
  same_line = refl

  pub end_first : s.phase ≡ 0 → (first : List ℕ) → first ≡ line_of (at s line []) → (r : Session) (z : List ℕ)
      → at r [] z ≡ started (at s [] c) (id_verdict first) → at r line z ≡ ended (at s line c)
  unfolding ended
  end_first p first e r z q =
      rw (eq-eqb s.phase 0 p) (started_with (id_verdict first) r z q ∙ ap (λ (l : List ℕ). started (at s line c) (id_verdict l)) (e ∙ same_line))

  pub end_scan : (s.phase ≡ 0 → ⊥) → s.phase ≡ 1 → (l z : List ℕ) → l ≡ line_of (at s line []) → z ≡ scanned c l → at (now s.phase 0) line z ≡ ended (at s line c)
  unfolding ended
  end_scan p q l z e h =
      let f : z ≡ scanned c (line_of (at s line c)) = h ∙ ap (scanned c) (e ∙ same_line) in
      let g : at (now s.phase 0) line z ≡ at (now 1 0) line (scanned c (line_of (at s line c))) = ap₂ (λ (n : ℕ) (w : List ℕ). at (now n 0) line w) q f in
      rw (ne_eqb s.phase 0 p, eq-eqb s.phase 1 q) g

  pub end_over : (s.phase ≡ 0 → ⊥) → (s.phase ≡ 1 → ⊥) → at (now s.phase 0) line c ≡ ended (at s line c)
  unfolding ended
  end_over p q = rw (ne_eqb s.phase 0 p, ne_eqb s.phase 1 q)

-- ---- a byte

module _ (b : ℕ) (s : Session) (line x : List ℕ) (h : x ≡ over s.len (b ∷ []) line) where
  pub push_more : s.len ≤ 1024 → at (now s.phase (s.len + 1)) x [] ≡ longer (at s line []) b
  unfolding longer
  push_more l = rw (lt-ltb s.len 1025 (omega arith), h)

  pub push_full : 1024 < s.len → at s x [] ≡ longer (at s line []) b
  unfolding longer
  push_full l = rw (le-ltb s.len 1025 (omega arith), h)

module _ (b : ℕ) (s : Session) (line c : List ℕ) (r : Session) where
  pub byte_end : b ≡ 10 → (z : List ℕ) → at r line z ≡ ended (at s line c) → at r line z ≡ next (at s line c) b
  unfolding next
  byte_end e z h = rw (eq-eqb b 10 e) h

  pub byte_push : (b ≡ 10 → ⊥) → (x : List ℕ) → at r x [] ≡ longer (at s line []) b → at r x c ≡ next (at s line c) b
  unfolding next longer
  byte_push e x h =
      rw (ne_eqb b 10 e) (ap (λ (t : At). record { phase = t.phase; len = t.len; line = t.line; collection = c }) h)

  pub close_none : s.len ≡ 0 → at s line c ≡ closed (at s line c)
  unfolding closed
  close_none e = rw (eq-eqb s.len 0 e)

  pub close_line : (s.len ≡ 0 → ⊥) → (z : List ℕ) → at r line z ≡ ended (at s line c) → at r line z ≡ closed (at s line c)
  unfolding closed
  close_line e z h = rw (ne_eqb s.len 0 e) h

-- ---- all bytes of a part

-- after i bytes: the rest of the work is the whole of it
pub record Feeding (part line₀ c₀ : List ℕ) (s : Session) (line c : List ℕ) (r : Session) (i : ℕ) : Type 0 where
  pub most : i ≤ length part
  pub same_line : length line ≡ length line₀
  pub same_collection : length c ≡ length c₀
  pub rest : fed (at s line₀ c₀) part ≡ fed (at r line c) (drop i part)

pub feed_none : (part line c : List ℕ) (s : Session) → Feeding part line c s line c s 0
feed_none part line c s = record { most = omega arith; same_line = refl; same_collection = refl; rest = refl }

module _ (part line₀ c₀ : List ℕ) (s : Session) (line c : List ℕ) (r : Session) (i : ℕ) (f : Feeding part line₀ c₀ s line c r i) where
  pub feed_on : i < length part → (q : Session) (x z : List ℕ) → length x ≡ length line → length z ≡ length c → at q x z ≡ next (at r line c) (get_or part i 0)
      → Feeding part line₀ c₀ s x z q (i + 1)
  unfolding fed
  feed_on h q x z l m e =
      record {
        most = omega arith;
        same_line = l ∙ f.same_line;
        same_collection = m ∙ f.same_collection;
        rest = f.rest ∙ rw (add-one i, drop-cons part i 0 h, e);
      }

  pub feed_end : length part ≤ i → at r line c ≡ fed (at s line₀ c₀) part
  unfolding fed
  feed_end h = sym (f.rest ∙ rw (drop_of_length-le part {i = i} h))

-- ---- the status line

module _ (phase : ℕ) (c x z : List ℕ) (r : Answer ℕ) where
  pub report_status : phase ≡ 1 → Kept (writing 0 x (done (status_line c))) x z r → Kept (writing 0 x (done (reported phase c))) x z r
  unfolding reported
  report_status e w = rw (eq-eqb phase 1 e) w

  pub report_refused : (phase ≡ 1 → ⊥) → (n : ℕ) → n ≡ 19 → Kept (writing 0 x (done (refused_line n))) x z r → Kept (writing 0 x (done (reported phase c))) x z r
  unfolding reported
  report_refused e n q w = rw (ne_eqb phase 1 e) (rw q at w)
