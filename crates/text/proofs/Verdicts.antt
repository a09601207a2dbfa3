-- What was judged of a text, as the answer of R5.5. Assumes nothing.
use Prim.Native.Nat.{ℕ, ◌*◌, ◌/◌, ◌%◌, ◌^◌, ◌≤◌, ◌<◌}
use mathlib.Core.Path.{◌≡◌, refl, sym, ap, ◌∙◌}
use mathlib.Core.Bool.{Bool, true, false}
use mathlib.Core.List.{List}
use native.Mathlib.Omega.{arith}
use borrow.Author.Tests.{le-leb, lt-leb, eq-eqb, ne_eqb}
use lib.Dec.{leb, eqb}
use lib.ListN.{length}
use Rattle.std.specs.Prelude.{Ok, Err}
use Rattle.wire.specs.Answer.{choose, done, refused}
use Rattle.wire.specs.Number.{digits, number}
use Rattle.wire.specs.Over.{over}
use Rattle.wire.specs.Writing.{Written}
use Rattle.wire.specs.declared.Refusal.TheVariants.{BadCharacter, BadTextLength, NoRoom}
use Rattle.wire.proofs.Digits.{length_digits}
use Rattle.wire.proofs.Writes.{written, no_room, denied}
use Rattle.wire.specs.Every.{within}
use Rattle.text.specs.Text.{values, leftover, read_values, read_text}
use Rattle.text.specs.Private.{Narrow, form_of, decoded, judged}
use Rattle.text.specs.declared.read.Judged.{Judged}
use Rattle.std.specs.Prelude.{Option, Some, None}
use Rattle.text.proofs.Sorts.{form_width, form_lawful}

abbrev left : (bits count made : ℕ) → Judged
left b c m = record { bits = b; count = c; made = m }

-- each character may stand there
abbrev pub Good : (bits count made : ℕ) → Option Judged
Good b c m = Some (left b c m)

module _ (w : ℕ) (narrow : Narrow w) (cs : List ℕ) where
  n : ℕ
  n = length (values (form_of w) cs)

  k : ℕ
  k = leftover (form_of w) n

  v : ℕ
  v = number (2 ^ w) (values (form_of w) cs)

  -- the answer at this width, with the count that no text has as a test of the bits left over
  answer : read_text (form_of w) cs
      ≡ choose (within (2 ^ w) (values (form_of w) cs)) (choose (leb w k) (refused 2) (choose (eqb (v % 2 ^ k) 0) (done (decoded w cs)) (refused 2))) (refused 1)
  unfolding read_text read_values decoded n k v
  answer =
      let l : ℕ = leftover (form_of w) (length (values (form_of w) cs)) in
      let vs : List ℕ = values (form_of w) cs in
      ap (λ (t : Bool). choose (within (2 ^ (form_of w).width) vs) (choose t (refused 2) (choose (eqb (number (2 ^ (form_of w).width) vs % 2 ^ l) 0) (done (digits 256 ((form_of w).width * length vs / 8) (number (2 ^ (form_of w).width) vs / 2 ^ l))) (refused 2))) (refused 1)) ((form_lawful w narrow).counts (length vs))
      ∙ ap (λ (x : ℕ). choose (within (2 ^ x) vs) (choose (leb x l) (refused 2) (choose (eqb (number (2 ^ x) vs % 2 ^ l) 0) (done (digits 256 (x * length vs / 8) (number (2 ^ x) vs / 2 ^ l))) (refused 2))) (refused 1)) (form_width w narrow)

  -- the two ways of having been judged
  good_is : (b c m : ℕ) → Good b c m ≡ judged w cs → (within (2 ^ w) (values (form_of w) cs) ≡ true) × (b ≡ v % 2 ^ k) × (c ≡ k) × (m ≡ w * n / 8)
  unfolding judged n k v
  good_is b c m e = go (within (2 ^ w) (values (form_of w) cs)) refl e
    where
      go : (t : Bool) → within (2 ^ w) (values (form_of w) cs) ≡ t → Good b c m ≡ choose t (Good (v % 2 ^ k) k (w * n / 8)) None
          → (within (2 ^ w) (values (form_of w) cs) ≡ true) × (b ≡ v % 2 ^ k) × (c ≡ k) × (m ≡ w * n / 8)
      go true p h = let z : left b c m ≡ left (v % 2 ^ k) k (w * n / 8) = cc in (p, ap (λ (j : Judged). j.bits) z, ap (λ (j : Judged). j.count) z, ap (λ (j : Judged). j.made) z)
      go false p h = let z : ◌≡◌ {A = ℕ} 0 1 = cc in absurd (omega arith)

  verdict_bad : None ≡ judged w cs → read_text (form_of w) cs ≡ refused 1
  unfolding judged
  verdict_bad e = answer ∙ go (within (2 ^ w) (values (form_of w) cs)) e
    where
      go : (t : Bool) → None ≡ choose t (Good (number (2 ^ w) (values (form_of w) cs) % 2 ^ leftover (form_of w) (length (values (form_of w) cs))) (leftover (form_of w) (length (values (form_of w) cs))) (w * length (values (form_of w) cs) / 8)) None
          → choose t (choose (leb w k) (refused 2) (choose (eqb (v % 2 ^ k) 0) (done (decoded w cs)) (refused 2))) (refused 1) ≡ refused 1
      go true h = let z : ◌≡◌ {A = ℕ} 0 1 = cc in absurd (omega arith)
      go false h = refl

  module _ (b c m : ℕ) (e : Good b c m ≡ judged w cs) where
    verdict_count : w ≤ c → read_text (form_of w) cs ≡ refused 2
    verdict_count h = let g = good_is b c m e in answer ∙ rw (g.0, le-leb w k (omega (arith, g.2)))

    verdict_bits : c < w → (b ≡ 0 → ⊥) → read_text (form_of w) cs ≡ refused 2
    verdict_bits h z =
        let g = good_is b c m e in
        answer ∙ rw (g.0, lt-leb w k (omega (arith, g.2)), ne_eqb (v % 2 ^ k) 0 (λ (q : v % 2 ^ k ≡ 0). z (g.1 ∙ q)))

    verdict_good : c < w → b ≡ 0 → read_text (form_of w) cs ≡ done (decoded w cs)
    verdict_good h z =
        let g = good_is b c m e in
        answer ∙ rw (g.0, lt-leb w k (omega (arith, g.2)), eq-eqb (v % 2 ^ k) 0 (sym g.1 ∙ z))

    verdict_below : within (2 ^ w) (values (form_of w) cs) ≡ true
    verdict_below = (good_is b c m e).0

    verdict_length : m ≡ length (decoded w cs)
    unfolding decoded n
    verdict_length = (good_is b c m e).3 ∙ sym (length_digits 256 _ _)

-- for `search`: what `read` answers, r being what was judged of the text cs
module _ (w : ℕ) (narrow : Narrow w) (cs out : List ℕ) (r : Option Judged) (e : r ≡ judged w cs) where
  pub read_bad : r ≡ None → Written 0 (read_text (form_of w) cs) out out (Err BadCharacter)
  read_bad q = rw (verdict_bad w narrow cs (sym q ∙ e)) (denied 0 out BadCharacter)

  module _ (j : Judged) (q : r ≡ Some j) where
    pub read_count : w ≤ j.count → Written 0 (read_text (form_of w) cs) out out (Err BadTextLength)
    read_count h = rw (verdict_count w narrow cs j.bits j.count j.made (sym q ∙ e) h) (denied 0 out BadTextLength)

    pub read_below : within (2 ^ w) (values (form_of w) cs) ≡ true
    read_below = verdict_below w narrow cs j.bits j.count j.made (sym q ∙ e)

    pub read_fits : j.made ≤ length out → length (decoded w cs) ≤ length out
    read_fits l = omega (arith, verdict_length w narrow cs j.bits j.count j.made (sym q ∙ e))

    module _ (h : j.count < w) where
      pub read_bits : (j.bits ≡ 0 → ⊥) → Written 0 (read_text (form_of w) cs) out out (Err BadTextLength)
      read_bits z = rw (verdict_bits w narrow cs j.bits j.count j.made (sym q ∙ e) h z) (denied 0 out BadTextLength)

      pub read_short : j.bits ≡ 0 → length out < j.made → Written 0 (read_text (form_of w) cs) out out (Err NoRoom)
      read_short z l =
          rw (verdict_good w narrow cs j.bits j.count j.made (sym q ∙ e) h z) (no_room 0 out (decoded w cs) (omega (arith, verdict_length w narrow cs j.bits j.count j.made (sym q ∙ e))))

      pub read_done : (out' : List ℕ) → j.bits ≡ 0 → j.made ≤ length out → out' ≡ over 0 (decoded w cs) out → Written 0 (read_text (form_of w) cs) out out' (Ok j.made)
      read_done out' z l o =
          rw (verdict_good w narrow cs j.bits j.count j.made (sym q ∙ e) h z)
          (written 0 out (decoded w cs) out' j.made (omega (arith, read_fits l)) (verdict_length w narrow cs j.bits j.count j.made (sym q ∙ e)) o)
