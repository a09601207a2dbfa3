-- Open, offer and join: section 9 of docs/RULES.md.
use Rattle.std.specs.Prelude.{ℕ, ◌&&◌, List, eqb, length}
use Rattle.wire.specs.Answer.{then, demand, Got, got, Change, leaves}
use Rattle.wire.specs.Sizes.{id_size, collection_size}
use Rattle.lend.specs.Same.{same}
use Rattle.frame.specs.Frame as F
use Rattle.model.specs.Book.{Book, empty}
use Rattle.model.specs.Take.{Page, take_page, join_book, kind_of}
use Rattle.book.specs.Encode.{encode}
use Rattle.book.specs.Read.{id_of, book_in}

-- ---- a good page

-- what a frame says as a page
abbrev pub page_of : List ℕ → F.Frame → Page
page_of s f = record { index = f.index; total = f.total; contents = F.data_of s f }

-- the page of a good frame (R9.2): what its reader refuses is refused so; 12 where it is no main
-- frame, or its id is another's (R9.3)
unfoldable pub good_page : List ℕ → List ℕ → Got Page
good_page id s = then (F.frame_of s) (λ (f, next). demand (eqb f.kind 0x44 && same id (F.id_of s)) 12 (got (page_of s f) next))

-- ---- what a call decides

-- open: 19 for an id that has not 8 bytes, 11 for another size than a collection's; then the empty
-- one is written over all of it (R9.1)
unfoldable pub opening : List ℕ → List ℕ → Change Unit
opening id c =
    demand (eqb (length id) id_size) 19
    (demand (eqb (length c) collection_size) 11
    (leaves (encode id empty) tt))

-- a good page is taken (R9.4), and how it then stands is answered (R9.5)
abbrev pub taking : List ℕ → Book → Got Page → Change ℕ
taking id b g = then g (λ (p, next). leaves (encode id (take_page p b)) (kind_of p.index (take_page p b)))

-- offer, of one raw frame: the collection is judged, then the frame (R9.3)
unfoldable pub offering : List ℕ → List ℕ → Change ℕ
offering c s = then (book_in c) (λ b. taking (id_of c) b (good_page (id_of c) s))

-- join: the written collection is judged, then the read one, then whether they are of one document
-- (R9.6); then the first becomes the union (R1.5), page by page (R9.7), to which an empty one adds
-- nothing (R9.8)
unfoldable pub joining : List ℕ → List ℕ → Change Unit
joining c o =
    then (book_in c) (λ ours.
    then (book_in o) (λ theirs.
    demand (same (id_of c) (id_of o)) 12
    (leaves (encode (id_of c) (join_book ours theirs)) tt)))
