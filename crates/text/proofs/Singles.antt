-- One character and its value, by the table's entry. Assumes nothing.
use Prim.Native.Nat.{ℕ, suc, ◌^◌, ◌≤◌, ◌<◌}
use mathlib.Core.Path.{◌≡◌, refl, sym, ap, ◌∙◌}
use mathlib.Core.Bool.{Bool, true, false}
use mathlib.Core.List.{List, [], ◌∷◌}
use native.Mathlib.Omega.{arith}
use borrow.Author.Tests.{ltb-true, ltb-false}
use lib.Dec.{ltb, eqb}
use lib.ListN.{length}
use Rattle.wire.specs.Answer.{choose}
use Rattle.text.specs.Text.{Form, zbase32, skipped, place, value, letter}
use Rattle.text.specs.Private.{sort}
use Rattle.text.proofs.Forms.{Lawful, zbase32_lawful}
use Rattle.text.proofs.Characters.{place_back}

-- no place is past the alphabet's end
pub place_most : (c : ℕ) (letters : List ℕ) → place c letters ≤ length letters
unfolding place
place_most c [] = omega arith
place_most c (a ∷ more) = go (eqb c a) (place_most c more)
  where
    go : (t : Bool) → place c more ≤ length more → choose t 0 (suc (place c more)) ≤ suc (length more)
    go true h = omega arith
    go false h = omega arith

-- a character of the alphabet is not skipped
pub letter_plain : (f : Form) (law : Lawful f) (c : ℕ) → value f c < 2 ^ f.width → skipped f c ≡ false
letter_plain f law c h =
    let e : letter f (value f c) ≡ c = place_back c f.alphabet (rw law.full h) in
    ap (skipped f) (sym e) ∙ law.plain (value f c) h

module _ (c v : ℕ) (entry : v ≡ sort zbase32 c) where
  pub value_small : v < 32 → v ≡ value zbase32 c
  unfolding sort zbase32
  value_small h = go (skipped zbase32 c) (ltb (value zbase32 c) 32) entry
    where
      go : (s t : Bool) → v ≡ choose s 255 (choose t (value zbase32 c) 254) → v ≡ value zbase32 c
      go true t e = absurd (omega arith)
      go false true e = e
      go false false e = absurd (omega arith)

  pub value_none : 32 ≤ v → 32 ≡ value zbase32 c
  unfolding sort zbase32
  value_none h = go (ltb (value zbase32 c) 32) refl
    where
      go : (t : Bool) → ltb (value zbase32 c) 32 ≡ t → 32 ≡ value zbase32 c
      go true e =
          let l : value zbase32 c < 32 = ltb-true (value zbase32 c) 32 e in
          let q : v ≡ value zbase32 c = entry ∙ rw (letter_plain zbase32 zbase32_lawful c l, e) in
          absurd (omega arith)
      go false e = omega (arith, ltb-false (value zbase32 c) 32 e, place_most c zbase32.alphabet, zbase32_lawful.full)
