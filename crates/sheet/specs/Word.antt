-- A number as the word of a command says it: decimal digits, one at least, and nothing else
-- (R15.5).
use Rattle.std.specs.Prelude.{ℕ, ◌+◌, ◌-◌, ◌*◌, min, ◌&&◌, Option, Some, None, List, [], ◌∷◌, leb, eqb, length}
use Rattle.wire.specs.Answer.{choose}

-- the digits after those that said n. A number above the most that is asked for counts as that
unfoldable pub said_from : ℕ → ℕ → List ℕ → Option ℕ
said_from most n [] = Some n
said_from most n (b ∷ bs) = choose (leb 0x30 b && leb b 0x39) (said_from most (min (n * 10 + (b - 0x30)) most) bs) None

-- a word that is not all digits, or has none, says no number (R15.5)
unfoldable pub asked_of : ℕ → List ℕ → Option ℕ
asked_of most word = choose (eqb (length word) 0) None (said_from most 0 word)
