-- Characters and their values, each from the other. Assumes nothing.
use Prim.Native.Nat.{ℕ, zero, suc, ◌^◌, ◌≤◌, ◌<◌}
use mathlib.Core.Path.{◌≡◌, refl, sym, ap, ap₂, ◌∙◌}
use mathlib.Core.Bool.{Bool, true, false}
use mathlib.Core.List.{List, [], ◌∷◌, ◌++◌, map, map-append}
use native.Mathlib.Nat.{le_of_suc-le-suc}
use native.Mathlib.Omega.{arith}
use borrow.Author.Tests.{lt-ltb, le-ltb, ltb-true, eqb-true}
use lib.Dec.{ltb, eqb}
use lib.ListN.{length, get_or}
use Rattle.wire.specs.Answer.{choose}
use Rattle.wire.specs.Number.{Digits}
use Rattle.wire.proofs.Cases.{both_hold}
use Rattle.wire.specs.Every.{every, within}
use Rattle.wire.proofs.Everys.{every_fails}
use Rattle.text.specs.Text.{Form, skipped, kept, place, value, values, letter}
use Rattle.text.proofs.Forms.{Lawful}

-- ---- all within a bound, as a test and as a fact

pub within_true : (n : ℕ) (vs : List ℕ) → Digits n vs → within n vs ≡ true
unfolding every
within_true n [] all = refl
within_true n (v ∷ vs) all = rw (lt-ltb v n (all 0)) (within_true n vs (λ i. all (suc i)))

pub within_all : (n : ℕ) (vs : List ℕ) → 0 < n → within n vs ≡ true → Digits n vs
unfolding every
within_all n [] z e i = z
within_all n (v ∷ vs) z e zero = ltb-true v n (both_hold (ltb v n) (within n vs) e).0
within_all n (v ∷ vs) z e (suc i) = within_all n vs z (both_hold (ltb v n) (within n vs) e).1 i

-- ---- a character that is allowed stands in the alphabet at its value

pub place_back : (c : ℕ) (letters : List ℕ) → place c letters < length letters → get_or letters (place c letters) 0 ≡ c
unfolding place
place_back c [] h = absurd (omega arith)
place_back c (a ∷ more) h = go (eqb c a) refl h (place_back c more)
  where
    go : (t : Bool) → eqb c a ≡ t → choose t 0 (suc (place c more)) < suc (length more)
        → (place c more < length more → get_or more (place c more) 0 ≡ c)
        → get_or (a ∷ more) (choose t 0 (suc (place c more))) 0 ≡ c
    go true e l ih = sym (eqb-true c a e)
    go false e l ih = ih (le_of_suc-le-suc l)

-- what was written is read: every letter is kept, and has the value that it was written for
module _ (f : Form) (law : Lawful f) where
  pub letters_kept : (vs : List ℕ) → Digits (2 ^ f.width) vs → kept f (map (letter f) vs) ≡ map (letter f) vs
  unfolding kept
  letters_kept [] all = refl
  letters_kept (v ∷ vs) all = rw (law.plain v (all 0)) (ap (λ (r : List ℕ). letter f v ∷ r) (letters_kept vs (λ i. all (suc i))))

  letters_values : (vs : List ℕ) → Digits (2 ^ f.width) vs → map (value f) (map (letter f) vs) ≡ vs
  letters_values [] all = refl
  letters_values (v ∷ vs) all = ap₂ (λ (x : ℕ) (r : List ℕ). x ∷ r) (law.inverse v (all 0)) (letters_values vs (λ i. all (suc i)))

  pub values_letters : (vs : List ℕ) → Digits (2 ^ f.width) vs → values f (map (letter f) vs) ≡ vs
  unfolding values
  values_letters vs all = ap (map (value f)) (letters_kept vs all) ∙ letters_values vs all

  -- what is read is written: characters that are allowed are the letters of their values
  pub letters_back : (cs : List ℕ) → Digits (2 ^ f.width) (map (value f) cs) → map (letter f) (map (value f) cs) ≡ cs
  letters_back [] all = refl
  letters_back (c ∷ cs) all =
      ap₂ (λ (x : ℕ) (r : List ℕ). x ∷ r) (place_back c f.alphabet (rw law.full (all 0))) (letters_back cs (λ i. all (suc i)))

-- ---- a text in two parts

kept_append : (f : Form) (xs ys : List ℕ) → kept f (xs ++ ys) ≡ kept f xs ++ kept f ys
unfolding kept
kept_append f [] ys = refl
kept_append f (x ∷ xs) ys = ap (λ (r : List ℕ). choose (skipped f x) r (x ∷ r)) (kept_append f xs ys) ∙ go (skipped f x)
  where
    go : (t : Bool) → choose t (kept f xs ++ kept f ys) (x ∷ (kept f xs ++ kept f ys)) ≡ choose t (kept f xs) (x ∷ kept f xs) ++ kept f ys
    go true = refl
    go false = refl

pub values_append : (f : Form) (xs ys : List ℕ) → values f (xs ++ ys) ≡ values f xs ++ values f ys
unfolding values
values_append f xs ys = ap (map (value f)) (kept_append f xs ys) ∙ map-append (value f) (kept f xs) (kept f ys)

pub values_skipped : (f : Form) (c : ℕ) → skipped f c ≡ true → values f (c ∷ []) ≡ []
unfolding values kept
values_skipped f c e = rw e

pub values_one : (f : Form) (c : ℕ) → skipped f c ≡ false → values f (c ∷ []) ≡ value f c ∷ []
unfolding values kept
values_one f c e = rw e

pub length_values : (f : Form) (cs : List ℕ) → length (values f cs) ≤ length cs
unfolding values kept
length_values f [] = omega arith
length_values f (c ∷ cs) = go (skipped f c) (length_values f cs)
  where
    go : (t : Bool) → length (map (value f) (kept f cs)) ≤ length cs → length (map (value f) (choose t (kept f cs) (c ∷ kept f cs))) ≤ suc (length cs)
    go true h = omega arith
    go false h = omega arith

-- one value that is not within the bound
pub within_stop : (n v : ℕ) (xs ys : List ℕ) → n ≤ v → within n (xs ++ (v ∷ ys)) ≡ false
within_stop n v xs ys h = every_fails _ xs v ys (le-ltb v n h)
