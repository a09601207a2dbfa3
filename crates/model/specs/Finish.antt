-- When a collection is complete, and how its pages are counted: section 9 of docs/RULES.md.
use Rattle.std.specs.Prelude.{ℕ, suc, ◌+◌, Bool, true, false, List, [], ◌∷◌, ◌++◌, ltb, length, take}
use Rattle.wire.specs.Answer.{choose, Answer, done, refused_at, refused}
use Rattle.model.specs.Book.{Slot, absent, held, disputed, data_of, Book, empty, collecting, disagree}

-- absent is a state, and no length: a page without data may be held (R9.9)
unfoldable pub is_absent : Slot → Bool
is_absent absent = true
is_absent (held d) = false
is_absent disputed = false

unfoldable pub is_held : Slot → Bool
is_held absent = false
is_held (held d) = true
is_held disputed = false

unfoldable pub is_disputed : Slot → Bool
is_disputed absent = false
is_disputed (held d) = false
is_disputed disputed = true

-- the lowest index with a property; past the end where there is none
unfoldable pub lowest : (Slot → Bool) → List Slot → ℕ
lowest f [] = 0
lowest f (x ∷ xs) = choose (f x) 0 (suc (lowest f xs))

-- how many have it
unfoldable pub count : (Slot → Bool) → List Slot → ℕ
count f [] = 0
count f (x ∷ xs) = choose (f x) 1 0 + count f xs

-- the data of all pages, the lowest index first (R9.10)
unfoldable pub joined : List Slot → List ℕ
joined [] = []
joined (x ∷ xs) = data_of x ++ joined xs

-- the ciphertext of the pages below the total, where none is disputed or missing (R1.6): else 15,
-- then 16, each with the lowest such index (R9.10)
unfoldable pub finish_pages : List Slot → Answer (List ℕ)
finish_pages ss =
    choose (ltb (lowest is_disputed ss) (length ss)) (refused_at 15 (lowest is_disputed ss))
    (choose (ltb (lowest is_absent ss) (length ss)) (refused_at 16 (lowest is_absent ss))
    (done (joined ss)))

-- 14 for totals that disagree; in the empty collection page 0 is the first that is missing (R9.10)
unfoldable pub finish_book : Book → Answer (List ℕ)
finish_book empty = refused 16
finish_book (collecting t ss) = finish_pages (take t ss)
finish_book disagree = refused 14
