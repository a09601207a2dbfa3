-- The order in which a manifest names its paths: section 12 of docs/RULES.md.
use Rattle.std.specs.Prelude.{ℕ, Bool, true, false, List, [], ◌∷◌, ltb, eqb}
use Rattle.wire.specs.Answer.{choose}

-- the first byte at which two lists differ decides; a list that is the front of a longer one is
-- below it (R12.5)
unfoldable pub below : List ℕ → List ℕ → Bool
below [] [] = false
below [] (y ∷ ys) = true
below (x ∷ xs) [] = false
below (x ∷ xs) (y ∷ ys) = choose (eqb x y) (below xs ys) (ltb x y)
