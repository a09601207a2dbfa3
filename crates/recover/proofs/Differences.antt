-- Newton's form of the curve through points, as the code makes it: one difference behind the
-- others, and the value by them. Assumes nothing.
use mathlib.Core.Path.{◌≡◌, refl, sym, ap, ap₂, ◌∙◌}
use mathlib.Core.List.{List, [], ◌∷◌, ◌++◌}
use Prim.Native.Nat.{ℕ, zero, suc, ◌<◌}
use native.Mathlib.Nat.{le_of_suc-le-suc, not-suc-le-zero}
use native.Mathlib.Omega.{arith}
use lib.ListN.{length, get_or, take}
use Rattle.field.specs.Field.{plus, product, over}
use Rattle.curve.specs.Curve.{slopes, through_at}
use Rattle.curve.proofs.Curves.{length_slopes}
use Rattle.recover.specs.Private.{places, differences, left, newton_at}

-- slopes stand at the places of their points
places_slopes : (u y : ℕ) (ps : List (ℕ × ℕ)) → places (slopes u y ps) ≡ places ps
unfolding slopes
places_slopes u y [] = refl
places_slopes u y (p ∷ ps) = ap {B = List ℕ} (λ (l : List ℕ). p.0 ∷ l) (places_slopes u y ps)

slope_at : (u y : ℕ) (ps : List (ℕ × ℕ)) (i : ℕ) → i < length ps
    → get_or (slopes u y ps) i (0, 0) ≡ ((get_or ps i (0, 0)).0, over (plus (get_or ps i (0, 0)).1 y) (plus (get_or ps i (0, 0)).0 u))
unfolding slopes
slope_at u y [] i h = absurd (not-suc-le-zero h)
slope_at u y (p ∷ ps) zero h = refl
slope_at u y (p ∷ ps) (suc i) h = slope_at u y ps i (le_of_suc-le-suc h)

pub newton_through : (n : ℕ) (ps : List (ℕ × ℕ)) (x : ℕ) → newton_at (take n (places ps)) (differences n ps) x ≡ through_at n ps x
unfolding newton_at differences through_at
newton_through zero ps x = refl
newton_through (suc n) [] x = refl
newton_through (suc n) (p ∷ ps) x =
    ap (λ (us : List ℕ). plus p.1 (product (newton_at (take n us) (differences n (slopes p.0 p.1 ps)) x) (plus x p.0)))
    (sym (places_slopes p.0 p.1 ps))
    ∙ ap (λ (v : ℕ). plus p.1 (product v (plus x p.0))) (newton_through n (slopes p.0 p.1 ps) x)

-- what is left of point i by the differences before it
abbrev pub left_at : ℕ → List (ℕ × ℕ) → ℕ
left_at i ps = left (take i (places ps)) (differences i ps) (get_or ps i (0, 0)).0 (get_or ps i (0, 0)).1

pub differences_snoc : (i : ℕ) (ps : List (ℕ × ℕ)) → i < length ps → differences (suc i) ps ≡ differences i ps ++ (left_at i ps ∷ [])
unfolding differences left
differences_snoc zero [] h = absurd (not-suc-le-zero h)
differences_snoc zero (p ∷ ps) h = refl
differences_snoc (suc i) [] h = absurd (not-suc-le-zero h)
differences_snoc (suc i) (p ∷ ps) h =
    ap {B = List ℕ} (λ (l : List ℕ). p.1 ∷ l)
    (differences_snoc i (slopes p.0 p.1 ps) (omega (arith, length_slopes p.0 p.1 ps))
    ∙ ap₂ (λ (us : List ℕ) (q : ℕ × ℕ). differences i (slopes p.0 p.1 ps) ++ (left (take i us) (differences i (slopes p.0 p.1 ps)) q.0 q.1 ∷ []))
    (places_slopes p.0 p.1 ps) (slope_at p.0 p.1 ps i (omega arith)))
