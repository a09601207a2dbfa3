-- Where a collection stands, as numbers, and how each of its pages stands: R16.3.
use Rattle.std.specs.Prelude.{ℕ, List, map, leb, length, take}
use Rattle.wire.specs.Answer.{then, demand, Change, leaves}
use Rattle.wire.specs.Over.{over}
pub use Rattle.wire.specs.Reading.{told}
use Rattle.wire.specs.Sizes.{most_pages}
use Rattle.model.specs.Book.{Slot, Book, empty, collecting, disagree, slots_of}
use Rattle.model.specs.Finish.{is_absent, is_held, is_disputed, count}
use Rattle.block.specs.Block.{state_of}
use Rattle.book.specs.Read.{book_in}
use Rattle.status.specs.declared.standing.Numbers.{Numbers}

-- a total and the pages below it: how many are in each of the three states (R9.12)
abbrev pub below : ℕ → List Slot → Numbers
below t ss = record { stands = 0; total = t; held = count is_held ss; missing = count is_absent ss; disputed = count is_disputed ss }

-- without a total there is nothing to count (R9.13); 3 is an offer's word for totals that disagree
-- (R9.5)
abbrev pub uncounted : ℕ → Numbers
uncounted stands = record { stands = stands; total = 0; held = 0; missing = 0; disputed = 0 }

unfoldable pub numbers_of : Book → Numbers
numbers_of empty = uncounted 0
numbers_of (collecting t ss) = below t (take t ss)
numbers_of disagree = uncounted 3

-- the state of each of the 96 pages, one byte each (R8.4)
unfoldable pub states_of : Book → List ℕ
states_of b = map state_of (slots_of b)

-- of any bytes: 13, then 11 for a buffer that has no room for the states; they go to its front
unfoldable pub standing : List ℕ → List ℕ → Change Numbers
standing c out = then (book_in c) (λ b. demand (leb most_pages (length out)) 11 (leaves (over 0 (states_of b) out) (numbers_of b)))
