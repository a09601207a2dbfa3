-- What a collection can say: sections 8 and 9 of docs/RULES.md.
use Rattle.std.specs.Prelude.{ℕ, List, [], replicate}
use Rattle.wire.specs.Sizes.{most_pages}

-- a page: absent, held with its data, or disputed, since it came in two versions (R8.4)
pub data Slot : Type 0 where
  absent : Slot
  held : List ℕ → Slot
  disputed : Slot

-- the data of a page: none unless held (R8.5)
unfoldable pub data_of : Slot → List ℕ
data_of absent = []
data_of (held d) = d
data_of disputed = []

-- the whole: no page yet; a total, and a slot for each of the 96 indices; totals that disagree
-- (R8.3)
pub data Book : Type 0 where
  empty : Book
  collecting : ℕ → List Slot → Book
  disagree : Book

-- every page absent
unfoldable pub no_pages : List Slot
no_pages = replicate most_pages absent

-- only a collection that collects has one (R8.3)
unfoldable pub total_of : Book → ℕ
total_of empty = 0
total_of (collecting t ss) = t
total_of disagree = 0

-- only a collection that collects holds any (R8.6)
unfoldable pub slots_of : Book → List Slot
slots_of empty = no_pages
slots_of (collecting t ss) = ss
slots_of disagree = no_pages
