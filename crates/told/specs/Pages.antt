-- Which pages of a collection are missing, and which are disputed: each by its number (R15.9).
use Rattle.std.specs.Prelude.{ℕ, suc, Bool, List, [], ◌∷◌, ◌++◌, eqb, take}
use Rattle.wire.specs.Answer.{choose, Answer, done, refused_at}
use Rattle.wire.specs.Ascii.{ascii}
use Rattle.digits.specs.Decimal.{decimal, line_feed}
use Rattle.model.specs.Book.{Slot, Book, empty, collecting, disagree}
use Rattle.model.specs.Finish.{is_absent, is_disputed, count}
use Rattle.book.specs.Read.{book_in}

-- a space and the number of a page that is meant
abbrev pub entry : Bool → ℕ → List ℕ
entry t k = choose t (ascii " " ++ decimal k) []

-- the pages from index k on
unfoldable pub listed : (Slot → Bool) → ℕ → List Slot → List ℕ
listed f k [] = []
listed f k (x ∷ xs) = entry (f x) k ++ listed f (suc k) xs

-- a name, and the pages; nothing where there is none
unfoldable pub list_line : List ℕ → (Slot → Bool) → List Slot → List ℕ
list_line name f ss = choose (eqb (count f ss) 0) [] (name ++ listed f 0 ss ++ line_feed)

-- of the pages below the total: only a collection that collects has one
abbrev pub book_list : List ℕ → (Slot → Bool) → Book → List ℕ
book_list name f empty = []
book_list name f (collecting t ss) = list_line name f (take t ss)
book_list name f disagree = []

-- of any bytes: nothing for those that are no collection
abbrev pub list_of : List ℕ → (Slot → Bool) → Answer Book → List ℕ
list_of name f (done b) = book_list name f b
list_of name f (refused_at e place) = []

unfoldable pub missing_line : List ℕ → List ℕ
missing_line c = list_of (ascii "missing:") is_absent (book_in c)

unfoldable pub disputed_line : List ℕ → List ℕ
disputed_line c = list_of (ascii "disputed:") is_disputed (book_in c)
