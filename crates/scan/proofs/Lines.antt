-- The lines of an input. Assumes nothing.
use mathlib.Core.Path.{◌≡◌, refl}
use mathlib.Core.List.{List, [], ◌∷◌, ◌++◌}
use Prim.Native.Nat.{ℕ, zero, suc}
use native.Mathlib.Omega.{arith}
use borrow.Author.Tests.{ne_eqb}
use lib.ListN.{get_or}
use Rattle.scan.specs.Input.{lines}

-- no line feed inside
abbrev pub Single : List ℕ → Type 0
Single bs = (i : ℕ) → get_or bs i 0 ≡ 10 → ⊥

pub single_none : Single []
single_none i e = omega arith

pub single_snoc : (bs : List ℕ) (b : ℕ) → Single bs → (b ≡ 10 → ⊥) → Single (bs ++ (b ∷ []))
single_snoc [] b w h zero e = h e
single_snoc [] b w h (suc i) e = omega arith
single_snoc (a ∷ bs) b w h zero e = w 0 e
single_snoc (a ∷ bs) b w h (suc i) e = single_snoc bs b (λ j. w (suc j)) h i e

-- what stands in front of the first line feed is the first line, and the lines behind it are those
-- of the rest
pub lines_first : (l bs : List ℕ) → Single l → lines (l ++ 10 ∷ bs) ≡ l ∷ lines bs
unfolding lines
lines_first [] bs w = refl
lines_first (b ∷ l) bs w = rw (ne_eqb b 10 (w 0), lines_first l bs (λ i. w (suc i)))

-- bytes without a line feed are one line
pub lines_last : (b : ℕ) (l : List ℕ) → Single (b ∷ l) → lines (b ∷ l) ≡ (b ∷ l) ∷ []
unfolding lines
lines_last b [] w = rw (ne_eqb b 10 (w 0))
lines_last b (a ∷ l) w = rw (ne_eqb b 10 (w 0), lines_last a l (λ i. w (suc i)))
