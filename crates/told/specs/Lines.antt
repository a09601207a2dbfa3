-- How many lines came to what (R15.9), from the notes of a session (notes, Notes).
use Rattle.std.specs.Prelude.{ℕ, List, ◌++◌, get_or}
use Rattle.wire.specs.Ascii.{ascii}
use Rattle.digits.specs.Decimal.{numeral, line_feed}

-- a name, and the number at index k of the notes
abbrev pub counted : List ℕ → List ℕ → ℕ → List ℕ
counted name n k = name ++ numeral (get_or n k 0)

unfoldable pub counts_line : List ℕ → List ℕ
counts_line n =
    counted (ascii "lines: taken ") n 0 ++ counted (ascii ", seen before ") n 1 ++ counted (ascii ", of another document ") n 2
    ++ counted (ascii ", unreadable ") n 3 ++ counted (ascii ", too long ") n 4 ++ line_feed
