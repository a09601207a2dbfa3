-- Where a slip of the hand stands in a text: R5.15 of docs/RULES.md.
use Rattle.std.specs.Prelude.{ℕ, suc, List, [], ◌∷◌, eqb}
use Rattle.wire.specs.Answer.{choose}
use Rattle.typed.specs.Typed.{plain, feed}

-- the number of the line on which the character behind xs stands: 1, and 1 more for each line feed
-- (R5.8)
unfoldable pub line_at : List ℕ → ℕ
line_at [] = 1
line_at (x ∷ xs) = choose (eqb x feed) (suc (line_at xs)) (line_at xs)

-- all before the first line feed
unfoldable pub before : List ℕ → List ℕ
before [] = []
before (c ∷ cs) = choose (eqb c feed) [] (c ∷ before cs)

-- the characters that follow on the same line, where ys follows in the text
abbrev pub rest : List ℕ → List ℕ
rest ys = before (plain ys)
