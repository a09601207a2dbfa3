-- The status line: section 9 of docs/RULES.md.
use Rattle.std.specs.Prelude.{ℕ, List, ◌++◌, ltb, take}
use Rattle.wire.specs.Answer.{choose, Answer, done, refused_at}
use Rattle.wire.specs.Ascii.{ascii}
use Rattle.digits.specs.Decimal.{decimal, line_feed, refused_line}
use Rattle.model.specs.Book.{Slot, Book, empty, collecting, disagree}
use Rattle.model.specs.Finish.{is_absent, lowest}
use Rattle.book.specs.Read.{book_in}
use Rattle.status.specs.declared.standing.Numbers.{Numbers}
use Rattle.status.specs.Numbers.{below}

-- a name, and the number behind it
unfoldable pub field : List ℕ → ℕ → List ℕ
field name n = name ++ decimal n

-- the names, with their spaces (R9.12)
abbrev pub pages_name : List ℕ
pages_name = ascii "pages "

abbrev pub held_name : List ℕ
held_name = ascii " held "

abbrev pub missing_name : List ℕ
missing_name = ascii " missing "

abbrev pub disputed_name : List ℕ
disputed_name = ascii " disputed "

abbrev pub first_name : List ℕ
first_name = ascii " first "

abbrev pub no_first : List ℕ
no_first = ascii " first -"

-- the lines that have no number (R9.13)
abbrev pub empty_line : List ℕ
empty_line = ascii "empty" ++ line_feed

abbrev pub disagree_line : List ℕ
disagree_line = ascii "totals disagree" ++ line_feed

-- the lowest index below the total that is missing; `-` where that is none (R9.12)
unfoldable pub first_field : ℕ → ℕ → List ℕ
first_field k t = choose (ltb k t) (field first_name k) no_first

-- the total, how many pages below it are in each state, and the first that is missing (R9.12)
abbrev pub numbers_line : Numbers → ℕ → List ℕ
numbers_line n k =
    field pages_name n.total ++ field held_name n.held ++ field missing_name n.missing ++ field disputed_name n.disputed
    ++ first_field k n.total ++ line_feed

unfoldable pub pages_line : ℕ → List Slot → List ℕ
pages_line t ss = numbers_line (below t ss) (lowest is_absent ss)

-- a collection without a total has a word or two in place of numbers (R9.13)
unfoldable pub book_line : Book → List ℕ
book_line empty = empty_line
book_line (collecting t ss) = pages_line t (take t ss)
book_line disagree = disagree_line

-- of what a file says, or of its refusal (R9.13)
abbrev pub line_of : Answer Book → List ℕ
line_of (done b) = book_line b
line_of (refused_at e place) = refused_line e

-- of any bytes at all (R9.12, R9.13)
unfoldable pub status_line : List ℕ → List ℕ
status_line c = line_of (book_in c)
