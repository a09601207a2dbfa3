-- The notes of a session, step by step. Assumes nothing.
use mathlib.Core.Logic.{◌⊎◌, inl, inr}
use Prim.Native.Nat.{ℕ, zero, suc, min, ◌+◌, ◌-◌, ◌^◌, ◌≤◌, ◌<◌}
use mathlib.Core.Path.{◌≡◌, refl, sym, ap, ◌∙◌}
use mathlib.Core.Bool.{Bool, true, false}
use mathlib.Core.List.{List, [], ◌∷◌}
use native.Mathlib.Numerals.{add-one}
use native.Mathlib.Omega.{arith}
use borrow.Author.Tests.{eq-eqb, ne_eqb, lt-ltb, le-ltb}
use lib.Dec.{ltb}
use lib.ListN.{length, drop, get_or, set, drop_of_length-le}
use lib.Seq.{drop-cons, set-get_or}
use Rattle.wire.proofs.Cases.{lt_or_le}
use Rattle.wire.specs.Answer.{choose}
use Rattle.scan.specs.Session.{line_of, fed, at}
use Rattle.scan.specs.declared.session.Session.{Session}
use Rattle.notes.specs.Line.{kind_number, flaw_number, line_kind, id_fault}
use Rattle.notes.specs.declared.Kind.{Kind}
use Rattle.notes.specs.declared.line.Flaw.{Flaw}
use Rattle.notes.specs.Notes.{raised, noted, noted_next, noted_all, noted_last}

set_past : (n : List ℕ) (k v : ℕ) → length n ≤ k → set n k v ≡ n
set_past [] k v h = refl
set_past (x ∷ n) zero v h = absurd (omega arith)
set_past (x ∷ n) (suc k) v h = ap (λ (m : List ℕ). x ∷ m) (set_past n k v (omega arith))

-- ---- one more

module _ (n : List ℕ) (k : ℕ) where
  pub raise_past : length n ≤ k → n ≡ raised n k
  unfolding raised
  raise_past h = go (ltb (get_or n k 0) (2 ^ 64 - 1))
    where
      go : (t : Bool) → n ≡ choose t (set n k (get_or n k 0 + 1)) n
      go true = sym (set_past n k (get_or n k 0 + 1) h)
      go false = refl

  -- a number that is full stays
  pub raise_one : (m : ℕ) → m ≡ min (get_or n k 0 + 1) 18446744073709551615 → get_or n k 0 < 18446744073709551616 → set n k m ≡ raised n k
  unfolding raised
  raise_one m e f = go (lt_or_le (get_or n k 0) 18446744073709551615)
    where
      go : (get_or n k 0 < 18446744073709551615) ⊎ (18446744073709551615 ≤ get_or n k 0) → set n k m ≡ choose (ltb (get_or n k 0) 18446744073709551615) (set n k (get_or n k 0 + 1)) n
      go (inl h) = let q : m ≡ get_or n k 0 + 1 = omega (arith, e) in rw (lt-ltb (get_or n k 0) 18446744073709551615 h, q)
      go (inr h) = let q : m ≡ get_or n k 0 = omega (arith, e) in rw (le-ltb (get_or n k 0) 18446744073709551615 h, q) (set-get_or n k 0)

-- ---- a line ends

module _ (s : Session) (line c n : List ℕ) where
  pub note_first : s.phase ≡ 0 → (l : List ℕ) (f : Flaw) (x : ℕ) → l ≡ line_of (at s line []) → flaw_number f ≡ id_fault l → x ≡ flaw_number f → set n 5 x ≡ noted (at s line c) n
  unfolding noted line_of
  note_first p l f x e q h = rw (eq-eqb s.phase 0 p) (ap (set n 5) (h ∙ q ∙ ap id_fault e))

  pub note_nowhere : s.phase ≡ 0 → length n ≤ 5 → n ≡ noted (at s line c) n
  unfolding noted
  note_nowhere p h = rw (eq-eqb s.phase 0 p) (sym (set_past n 5 (id_fault (line_of (at s line c))) h))

  pub note_scan : (s.phase ≡ 0 → ⊥) → s.phase ≡ 1 → (l : List ℕ) (j : Kind) (k : ℕ) (x : List ℕ) → l ≡ line_of (at s line []) → kind_number j ≡ line_kind c l → k ≡ kind_number j → x ≡ raised n k
      → x ≡ noted (at s line c) n
  unfolding noted line_of
  note_scan z p l j k x e q g h =
      rw (ne_eqb s.phase 0 z, eq-eqb s.phase 1 p) (h ∙ ap (raised n) (g ∙ q ∙ ap (line_kind c) e))

  pub note_over : (s.phase ≡ 0 → ⊥) → (s.phase ≡ 1 → ⊥) → n ≡ noted (at s line c) n
  unfolding noted
  note_over z p = rw (ne_eqb s.phase 0 z, ne_eqb s.phase 1 p)

  pub note_more : (b : ℕ) → (b ≡ 10 → ⊥) → n ≡ noted_next (at s line c) n b
  unfolding noted_next
  note_more b h = rw (ne_eqb b 10 h)

  pub note_ended : (b : ℕ) (x : List ℕ) → b ≡ 10 → x ≡ noted (at s line c) n → x ≡ noted_next (at s line c) n b
  unfolding noted_next
  note_ended b x h e = rw (eq-eqb b 10 h) e

  pub last_none : s.len ≡ 0 → n ≡ noted_last (at s line c) n
  unfolding noted_last
  last_none h = rw (eq-eqb s.len 0 h)

  pub last_line : (s.len ≡ 0 → ⊥) → (x : List ℕ) → x ≡ noted (at s line c) n → x ≡ noted_last (at s line c) n
  unfolding noted_last
  last_line h x e = rw (ne_eqb s.len 0 h) e

-- ---- all bytes of a part

-- after i bytes: the rest of the work is the whole of it
pub record Noting (part line₀ c₀ n₀ : List ℕ) (s : Session) (line c n : List ℕ) (r : Session) (i : ℕ) : Type 0 where
  pub most : i ≤ length part
  pub same_line : length line ≡ length line₀
  pub same_collection : length c ≡ length c₀
  pub same_notes : length n ≡ length n₀
  pub rest : fed (at s line₀ c₀) part ≡ fed (at r line c) (drop i part)
  pub notes : noted_all (at s line₀ c₀) n₀ part ≡ noted_all (at r line c) n (drop i part)

pub noting_none : (part line c n : List ℕ) (s : Session) → Noting part line c n s line c n s 0
noting_none part line c n s = record { most = omega arith; same_line = refl; same_collection = refl; same_notes = refl; rest = refl; notes = refl }

module _ (part line₀ c₀ n₀ : List ℕ) (s : Session) (line c n : List ℕ) (r : Session) (i : ℕ) (f : Noting part line₀ c₀ n₀ s line c n r i) where
  -- one byte, which is fed as a part of its own
  pub noting_on : i < length part → (m x z : List ℕ) (q : Session) → length m ≡ length n → length x ≡ length line → length z ≡ length c
      → m ≡ noted_next (at r line c) n (get_or part i 0) → at q x z ≡ fed (at r line c) (get_or part i 0 ∷ [])
      → Noting part line₀ c₀ n₀ s x z m q (i + 1)
  unfolding fed noted_all
  noting_on h m x z q j k l e w =
      record {
        most = omega arith;
        same_line = k ∙ f.same_line;
        same_collection = l ∙ f.same_collection;
        same_notes = j ∙ f.same_notes;
        rest = f.rest ∙ rw (add-one i, drop-cons part i 0 h, w);
        notes = f.notes ∙ rw (add-one i, drop-cons part i 0 h, w, e);
      }

  pub noting_end_lem : length part ≤ i → (at r line c ≡ fed (at s line₀ c₀) part) × (n ≡ noted_all (at s line₀ c₀) n₀ part)
  unfolding fed noted_all
  noting_end_lem h = (sym (f.rest ∙ rw (drop_of_length-le part {i = i} h)), sym (f.notes ∙ rw (drop_of_length-le part {i = i} h)))
