-- What a person is told of lines that are no page, as one line to the letter (R15.14).
use Rattle.std.specs.Prelude.{ℕ, Bool, true, false, List, [], ◌++◌, ltb}
use Rattle.wire.specs.Answer.{choose}
use Rattle.wire.specs.Ascii.{ascii}
use Rattle.digits.specs.Decimal.{decimal, numeral, line_feed}
use Rattle.typed.specs.Typed.{full_line}
use Rattle.typing.specs.declared.Fault.{Fault}
use Rattle.typing.specs.declared.Fault.TheVariants.{Good, Nothing, Letter, Count, Surplus, Mistyped, Whole}

-- `line N`, and what is wrong with it
unfoldable pub of_line : ℕ → List ℕ → List ℕ
of_line n words = ascii "line " ++ numeral n ++ words

-- a line that has not as many characters as it may has fewer than a full one, or more
unfoldable pub count_words : ℕ → List ℕ
count_words count = choose (ltb count full_line) (ascii " has too few characters: ") (ascii " has too many characters: ")

-- how many belong there: in the last line 3 to 42
unfoldable pub belong_words : ℕ → Bool → List ℕ
belong_words count true = choose (ltb count full_line) (ascii ", and at least 3 belong there") (ascii ", and at most 42 belong there")
belong_words count false = ascii ", and 42 belong there"

unfoldable pub fault_words : Fault → List ℕ
fault_words Good = []
fault_words Nothing = ascii "no line was given: type the lines of one page, or give them on standard input" ++ line_feed
fault_words (Letter line) = of_line line (ascii " has a character that is not in the alphabet, which has no capitals, no l, v, 0 or 2, and no carriage return" ++ line_feed)
fault_words (Count line count last) = of_line line (count_words count) ++ numeral count ++ (belong_words count last ++ line_feed)
fault_words Surplus = ascii "line 21 is one too many: a page has at most 20" ++ line_feed
fault_words (Mistyped line) = of_line line (ascii " was mistyped" ++ line_feed)
fault_words (Whole e) = ascii "these lines are no good frame: refused " ++ decimal e ++ (ascii ": see that all lines of one page are there, in order" ++ line_feed)
