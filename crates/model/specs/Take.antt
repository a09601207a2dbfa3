-- Taking a page, and joining two collections of one document: section 9 of docs/RULES.md.
use Rattle.std.specs.Prelude.{ℕ, List, [], ◌∷◌, eqb, get_or, set}
use Rattle.wire.specs.Answer.{choose}
use Rattle.lend.specs.Same.{same}
use Rattle.model.specs.Book.{Slot, absent, held, disputed, Book, empty, collecting, disagree, no_pages}

-- what a good page says (R9.2)
pub record Page : Type 0 where
  pub index : ℕ
  pub total : ℕ
  pub contents : List ℕ

-- two versions of one page: equal ones are held as one, unequal ones make a dispute, and no dispute
-- ends (R9.4, R9.7)
unfoldable pub join_slot : Slot → Slot → Slot
join_slot absent y = y
join_slot (held d) absent = held d
join_slot (held d) (held e) = choose (same d e) (held d) disputed
join_slot (held d) disputed = disputed
join_slot disputed y = disputed

-- an empty collection takes its total from a page; a page with a different one ends all collecting,
-- and no page is kept (R9.4)
unfoldable pub take_page : Page → Book → Book
take_page p empty = collecting p.total (set no_pages p.index (held p.contents))
take_page p (collecting t ss) = choose (eqb p.total t) (collecting t (set ss p.index (join_slot (get_or ss p.index absent) (held p.contents)))) disagree
take_page p disagree = disagree

-- two lists of pages, each page as above (R9.7)
unfoldable pub join_slots : List Slot → List Slot → List Slot
join_slots [] ys = []
join_slots (x ∷ xs) [] = x ∷ xs
join_slots (x ∷ xs) (y ∷ ys) = join_slot x y ∷ join_slots xs ys

-- the union of two collections (R1.5): totals that disagreed in one, or differ between the two,
-- disagree (R9.7); the empty collection changes nothing (R9.8)
unfoldable pub join_book : Book → Book → Book
join_book empty b = b
join_book (collecting t ss) empty = collecting t ss
join_book (collecting t ss) (collecting u us) = choose (eqb t u) (collecting t (join_slots ss us)) disagree
join_book (collecting t ss) disagree = disagree
join_book disagree b = disagree

-- how a page stands after its offer: 1 held, 2 disputed, 3 totals disagree (R9.5). A page that was
-- taken is not absent
unfoldable pub kind_of_slot : Slot → ℕ
kind_of_slot absent = 0
kind_of_slot (held d) = 1
kind_of_slot disputed = 2

unfoldable pub kind_of : ℕ → Book → ℕ
kind_of i empty = 0
kind_of i (collecting t ss) = kind_of_slot (get_or ss i absent)
kind_of i disagree = 3
