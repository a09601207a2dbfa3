-- `below` is a strict total order of lists, and the `<` of slices. Assumes nothing.
use mathlib.Core.Path.{◌≡◌, refl, sym, ap₂, ◌∙◌}
use mathlib.Core.Logic.{◌⊎◌, inl, inr}
use mathlib.Core.Bool.{Bool, true, false, false≢true}
use mathlib.Core.List.{List, [], ◌∷◌, ◌++◌}
use Prim.Native.Nat.{ℕ, ◌≤◌, ◌<◌}
use native.Mathlib.Omega.{arith}
use lib.Dec.{ltb}
use borrow.Author.Tests.{lt-ltb, le-ltb, eq-eqb, ne_eqb}
use Rattle.std.specs.Prelude.{Some}
use Rattle.std.specs.Ordering.{is_some_and, is_lt, nat_cmp}
use Rattle.std.specs.Cmp.Lexicographic.{slice_partial_cmp}
use Rattle.std.proofs.lemmas.Bool.Decides.{nat_tests}
use Rattle.std.proofs.lemmas.Cmp.{same_from_slice_cmp_tested}
use Rattle.wire.proofs.Cases.{lt_or_le}
use Rattle.path.specs.Order.{below}

-- ---- what the first elements decide

module _ (x y : ℕ) (xs ys : List ℕ) where
  pub below_same : x ≡ y → below (x ∷ xs) (y ∷ ys) ≡ below xs ys
  unfolding below
  below_same e = rw (eq-eqb x y e)

  pub below_differ : (x ≡ y → ⊥) → below (x ∷ xs) (y ∷ ys) ≡ ltb x y
  unfolding below
  below_differ h = rw (ne_eqb x y h)

  pub below_less : x < y → below (x ∷ xs) (y ∷ ys) ≡ true
  below_less h = below_differ (λ e. omega arith) ∙ lt-ltb x y h

  pub below_more : y < x → below (x ∷ xs) (y ∷ ys) ≡ false
  below_more h = below_differ (λ e. omega arith) ∙ le-ltb x y (omega arith)

-- of two numbers
pub data Compared (x y : ℕ) : Type 0 where
  less : x < y → Compared x y
  same : x ≡ y → Compared x y
  more : y < x → Compared x y

pub compared : (x y : ℕ) → Compared x y
compared x y = go (lt_or_le x y) (lt_or_le y x)
  where
    go : (x < y) ⊎ (y ≤ x) → (y < x) ⊎ (x ≤ y) → Compared x y
    go (inl h) k = less h
    go (inr h) (inl k) = more k
    go (inr h) (inr k) = same (omega arith)

-- ---- the order's laws

-- For the reader: nothing is below itself
pub below_irreflexive : (xs : List ℕ) → below xs xs ≡ false
unfolding below
below_irreflexive [] = refl
below_irreflexive (x ∷ xs) = below_same x x xs xs refl ∙ below_irreflexive xs

-- what two lists have in front of them decides nothing
pub below_front : (ps xs ys : List ℕ) → below (ps ++ xs) (ps ++ ys) ≡ below xs ys
below_front [] xs ys = refl
below_front (p ∷ ps) xs ys = below_same p p (ps ++ xs) (ps ++ ys) refl ∙ below_front ps xs ys

pub below_asymmetric : (xs ys : List ℕ) → below xs ys ≡ true → below ys xs ≡ false
unfolding below
below_asymmetric [] [] e = refl
below_asymmetric [] (y ∷ ys) e = refl
below_asymmetric (x ∷ xs) [] e = absurd (false≢true e)
below_asymmetric (x ∷ xs) (y ∷ ys) e = go (compared x y) (below_asymmetric xs ys)
  where
    go : Compared x y → (below xs ys ≡ true → below ys xs ≡ false) → below (y ∷ ys) (x ∷ xs) ≡ false
    go (less h) ih = below_more y x ys xs h
    go (same h) ih = below_same y x ys xs (sym h) ∙ ih (sym (below_same x y xs ys h) ∙ e)
    go (more h) ih = absurd (false≢true (sym (below_more x y xs ys h) ∙ e))

-- For the reader: what is below one that is below a third is below the third
pub below_transitive : (xs ys zs : List ℕ) → below xs ys ≡ true → below ys zs ≡ true → below xs zs ≡ true
unfolding below
below_transitive [] [] zs d e = absurd (false≢true d)
below_transitive [] (y ∷ ys) [] d e = absurd (false≢true e)
below_transitive [] (y ∷ ys) (z ∷ zs) d e = refl
below_transitive (x ∷ xs) [] zs d e = absurd (false≢true d)
below_transitive (x ∷ xs) (y ∷ ys) [] d e = absurd (false≢true e)
below_transitive (x ∷ xs) (y ∷ ys) (z ∷ zs) d e = go (compared x y) (compared y z) (below_transitive xs ys zs)
  where
    go : Compared x y → Compared y z → (below xs ys ≡ true → below ys zs ≡ true → below xs zs ≡ true) → below (x ∷ xs) (z ∷ zs) ≡ true
    go (less h) (less k) ih = below_less x z xs zs (omega arith)
    go (less h) (same k) ih = below_less x z xs zs (omega arith)
    go (same h) (less k) ih = below_less x z xs zs (omega arith)
    go (same h) (same k) ih = below_same x z xs zs (h ∙ k) ∙ ih (sym (below_same x y xs ys h) ∙ d) (sym (below_same y z ys zs k) ∙ e)
    go (more h) k ih = absurd (false≢true (sym (below_more x y xs ys h) ∙ d))
    go (less h) (more k) ih = absurd (false≢true (sym (below_more y z ys zs k) ∙ e))
    go (same h) (more k) ih = absurd (false≢true (sym (below_more y z ys zs k) ∙ e))

-- For the reader: of two lists one is below the other, or they are one list
pub below_total : (xs ys : List ℕ) → (below xs ys ≡ true) ⊎ ((xs ≡ ys) ⊎ (below ys xs ≡ true))
unfolding below
below_total [] [] = inr (inl refl)
below_total [] (y ∷ ys) = inl refl
below_total (x ∷ xs) [] = inr (inr refl)
below_total (x ∷ xs) (y ∷ ys) = go (compared x y) (below_total xs ys)
  where
    go : Compared x y → (below xs ys ≡ true) ⊎ ((xs ≡ ys) ⊎ (below ys xs ≡ true))
        → (below (x ∷ xs) (y ∷ ys) ≡ true) ⊎ ((x ∷ xs ≡ y ∷ ys) ⊎ (below (y ∷ ys) (x ∷ xs) ≡ true))
    go (less h) ih = inl (below_less x y xs ys h)
    go (more h) ih = inr (inr (below_less y x ys xs h))
    go (same h) (inl k) = inl (below_same x y xs ys h ∙ k)
    go (same h) (inr (inl k)) = inr (inl (ap₂ (λ (z : ℕ) (zs : List ℕ). z ∷ zs) h k))
    go (same h) (inr (inr k)) = inr (inr (below_same y x ys xs (sym h) ∙ k))

-- ---- `<` of the library's slices is this order

pub less_is_below : (xs ys : List ℕ) (r : Bool) → r ≡ is_some_and is_lt (slice_partial_cmp (λ x y. Some (nat_cmp x y)) xs ys) → r ≡ below xs ys
unfolding below
less_is_below = same_from_slice_cmp_tested nat_cmp is_lt below refl (λ y ys. refl) (λ x xs. refl) (λ x y xs ys o e. grind (arith, nat_tests))
