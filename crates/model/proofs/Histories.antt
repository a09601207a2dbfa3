-- However a collection came to be, it is the meaning of the set of pages that were offered.
use mathlib.Core.Path.{◌≡◌, refl}
use mathlib.Core.Logic.{◌⊎◌, inl, inr}
use Prim.Native.Nat.{◌<◌}
use Rattle.model.specs.Book.{Book, empty}
use Rattle.model.specs.Take.{Page, take_page, join_book}
use Rattle.model.specs.Meaning.{BookIs}
use Rattle.model.proofs.Sets.{book_join, book_take}
use Rattle.model.proofs.Valid.{Good, good_index, Valid, book_valid}

-- opened; a page offered to one; two joined
pub data History : Type 0 where
  opened : History
  took : Page → History → History
  united : History → History → History

-- the collection that it leaves
unfoldable pub run : History → Book
run opened = empty
run (took p h) = take_page p (run h)
run (united g h) = join_book (run g) (run h)

-- the pages that were offered in it
abbrev pub In : History → Page → Type 0
In opened q = ⊥
In (took p h) q = In h q ⊎ (q ≡ p)
In (united g h) q = In g q ⊎ In h q

-- every page has a slot
abbrev pub Indexed : History → Type 0
Indexed h = (p : Page) → In h p → p.index < 96

-- every page is one that the frame reader accepts
abbrev pub AllGood : History → Type 0
AllGood h = (p : Page) → In h p → Good p

-- good pages have slots
pub good_indexed : (h : History) → AllGood h → Indexed h
good_indexed h g p m = good_index p (g p m)

-- a history leaves the meaning of its pages
pub run_is : (h : History) → Indexed h → BookIs (In h) (run h)
unfolding run
run_is opened i = λ p n. n
run_is (took p h) i = book_take (In h) p (run h) (i p (inr refl)) (run_is h (λ q m. i q (inl m)))
run_is (united g h) i = book_join (In g) (In h) (run g) (run h) (run_is g (λ q m. i q (inl m))) (run_is h (λ q m. i q (inr m)))

-- a history of good pages leaves a valid collection
pub run_valid : (h : History) → AllGood h → Valid (run h)
run_valid h g = book_valid (In h) g (run h) (run_is h (good_indexed h g))
