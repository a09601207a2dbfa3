-- Curves over the field: R19.2, R19.3 and R19.8 of docs/RULES.md.
use Rattle.std.specs.Prelude.{ℕ, zero, suc, List, [], ◌∷◌, drop}
use Rattle.field.specs.Field.{plus, product, over}
use Rattle.field.specs.Element.{block}

-- the value at x of the curve with these coefficients, the lowest power first (R19.3)
unfoldable pub value_at : List ℕ → ℕ → ℕ
value_at [] x = 0
value_at (c ∷ cs) x = plus c (product (value_at cs x) x)

-- the elements of the first n blocks of 16 bytes (R19.2)
unfoldable pub blocks : ℕ → List ℕ → List ℕ
blocks zero bs = []
blocks (suc n) bs = block bs ∷ blocks n (drop 16 bs)

-- ---- the curve through points. A point is where, and the value there

-- how steeply it goes from the value y at u to each of the others: the difference of the values by
-- the difference of the places
unfoldable pub slopes : ℕ → ℕ → List (ℕ × ℕ) → List (ℕ × ℕ)
slopes u y [] = []
slopes u y (p ∷ ps) = (p.0, over (plus p.1 y) (plus p.0 u)) ∷ slopes u y ps

-- the value at x of the curve with n coefficients through the first n points, as Newton gives it: y
-- at the first, and from there as steeply as the curve through the slopes says (R19.8). There is
-- one such curve and no other: `through_them` and `one_curve` of proofs/Curves.antt
unfoldable pub through_at : ℕ → List (ℕ × ℕ) → ℕ → ℕ
through_at zero ps x = 0
through_at (suc n) [] x = 0
through_at (suc n) (p ∷ ps) x = plus p.1 (product (through_at n (slopes p.0 p.1 ps) x) (plus x p.0))
