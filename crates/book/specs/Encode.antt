-- The bytes of a collection, a head and 96 pages of a block each: section 8 of docs/RULES.md.
use Rattle.std.specs.Prelude.{ℕ, suc, List, [], ◌∷◌, ◌++◌, eqb, length}
use Rattle.wire.specs.Answer.{choose}
use Rattle.wire.specs.Over.{over}
use Rattle.wire.specs.Sizes.{id_size, block_size}
use Rattle.model.specs.Book.{Slot, Book, empty, collecting, disagree, no_pages, total_of, slots_of}
use Rattle.block.specs.Block.{page_block}
use Rattle.book.specs.Head.{Head, head_for, head_block}

-- the number of a state (R8.3)
unfoldable pub state_no : Book → ℕ
state_no empty = 0
state_no (collecting t ss) = 1
state_no disagree = 2

-- the head of a document's collection
unfoldable pub head_of : List ℕ → Book → Head
head_of id b = head_for id (state_no b) (total_of b)

-- the blocks of slots, one behind the other, from index k on
unfoldable pub pages : List ℕ → ℕ → List Slot → List ℕ
pages id k [] = []
pages id k (p ∷ ps) = page_block id k p ++ pages id (suc k) ps

-- the one sequence of bytes that a collection is saved as: its head, then a block for each page
-- (R8.1)
unfoldable pub encode : List ℕ → Book → List ℕ
encode id b = head_block (head_of id b) ++ pages id 0 (slots_of b)

-- a buffer with every page absent behind the head; as it was where the id has not 8 bytes, or the
-- pages have no room
unfoldable pub with_blank : List ℕ → List ℕ → List ℕ
with_blank id out = choose (eqb (length id) id_size) (over block_size (pages id 0 no_pages) out) out
