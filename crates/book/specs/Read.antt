-- What the bytes of a collection say, and when they are well formed: section 8 of docs/RULES.md.
use Rattle.std.specs.Prelude.{ℕ, zero, suc, ◌+◌, ◌*◌, Bool, true, ◌&&◌, ◌||◌, List, [], ◌∷◌, eqb, ltb}
use Rattle.wire.specs.Answer.{choose, Answer, done, number_of, then, demand}
use Rattle.wire.specs.Sizes.{most_pages, block_size}
use Rattle.model.specs.Book.{Slot, Book, empty, collecting, disagree}
use Rattle.model.specs.Finish.{is_absent}
use Rattle.block.specs.Read.{block_at, read_slot, ok_page}
use Rattle.book.specs.Head.{Head, read_head, head_in}

-- the document
abbrev pub id_of : List ℕ → List ℕ
id_of c = (read_head c).id

-- the page block of index k: the head is the block before that of index 0 (R8.1)
abbrev pub page_at : ℕ → List ℕ → List ℕ
page_at k c = block_at (block_size + block_size * k) c

-- what n page blocks say, from index k on
unfoldable pub read_pages : ℕ → ℕ → List ℕ → List Slot
read_pages k zero c = []
read_pages k (suc n) c = read_slot (page_at k c) ∷ read_pages (suc k) n c

unfoldable pub book_for : Head → List Slot → Book
book_for h ss = choose (eqb h.state 0) empty (choose (eqb h.state 1) (collecting h.total ss) disagree)

-- of any bytes: what they say
unfoldable pub read_book : List ℕ → Book
read_book c = book_for (read_head c) (read_pages 0 most_pages c)

-- the block of index k under a head: a page from the total on is absent, and so is every page where
-- the total is 0, in the states other than collecting (R8.6)
unfoldable pub ok_at : Head → ℕ → List ℕ → Bool
ok_at h k b = (ltb k h.total || is_absent (read_slot b)) && ok_page h.id k b

-- n page blocks, from index k on: under any total all of them may be absent (R8.8)
unfoldable pub ok_pages : (h : Head) (k n : ℕ) (c : List ℕ) → Bool
ok_pages h k zero c = true
ok_pages h k (suc n) c = ok_at h k (page_at k c) && ok_pages h (suc k) n c

-- what a file says, or its refusal, 13 (R8.7): nothing else judges a whole collection
unfoldable pub book_in : List ℕ → Answer Book
book_in c = then (head_in c) (λ h. demand (ok_pages h 0 most_pages c) 13 (done (read_book c)))

-- well formed, for every byte (R8.7)
unfoldable pub ok_book : List ℕ → Bool
ok_book c = eqb (number_of (book_in c)) 0
