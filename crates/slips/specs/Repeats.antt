-- A number that comes twice in a list (R15.19).
use Rattle.std.specs.Prelude.{ℕ, suc, Option, Some, None, List, [], ◌∷◌, ◌++◌, ltb, eqb, length}
use Rattle.wire.specs.Answer.{choose}

-- the first place of x, counted from 0; where it is not there, as many as there are
unfoldable pub place_of : ℕ → List ℕ → ℕ
place_of x [] = 0
place_of x (y ∷ ys) = choose (eqb x y) 0 (suc (place_of x ys))

-- the first that was there before, behind those that were seen and are all different, and where it
-- was
unfoldable pub repeat_in : List ℕ → List ℕ → Option (ℕ × ℕ)
repeat_in seen [] = None
repeat_in seen (x ∷ xs) =
    choose (ltb (place_of x seen) (length seen)) (Some (place_of x seen, length seen)) (repeat_in (seen ++ (x ∷ [])) xs)

unfoldable pub repeat_of : List ℕ → Option (ℕ × ℕ)
repeat_of xs = repeat_in [] xs
