-- How long a status line can be, and the example of R9.12. What it tells of a set of pages is in
-- Sets.antt. Assumes nothing.
use mathlib.Core.Path.{◌≡◌, refl}
use mathlib.Core.Bool.{Bool, true, false}
use mathlib.Core.List.{List, [], ◌∷◌, ◌++◌}
use Prim.Native.Nat.{ℕ, ◌+◌, ◌≤◌}
use native.Mathlib.Omega.{arith}
use lib.Dec.{ltb}
use lib.ListN.{length, take, length-append}
use Rattle.wire.specs.Answer.{choose, Answer, done, refused_at}
use Rattle.wire.specs.Ascii.{ascii}
use Rattle.digits.specs.Decimal.{decimal, line_feed}
use Rattle.digits.proofs.Decimals.{length_decimal, refused_most}
use Rattle.model.specs.Book.{Slot, absent, held, Book, empty, collecting, disagree}
use Rattle.model.specs.Finish.{is_absent, is_held, is_disputed, lowest, count}
use Rattle.book.specs.Read.{book_in}
use Rattle.status.specs.Line.{field, pages_name, held_name, missing_name, disputed_name, first_name, no_first, first_field, pages_line, book_line, line_of, status_line}

name_most : (name : List ℕ) (n m : ℕ) → length name ≡ m → length (field name n) ≤ m + 3
unfolding field
name_most name n m e = omega (arith, length-append name (decimal n), length_decimal n)

first_most : (k t : ℕ) → length (first_field k t) ≤ 10
unfolding first_field
first_most k t = go (ltb k t)
  where
    go : (w : Bool) → length (choose w (field first_name k) no_first) ≤ 10
    go true = name_most first_name k 7 refl
    go false = omega arith

pages_most : (t : ℕ) (ss : List Slot) → length (pages_line t ss) ≤ 64
unfolding pages_line
pages_most t ss =
    simp length-append
    (omega (
      arith,
      name_most pages_name t 6 refl,
      name_most held_name (count is_held ss) 6 refl,
      name_most missing_name (count is_absent ss) 9 refl,
      name_most disputed_name (count is_disputed ss) 10 refl,
      first_most (lowest is_absent ss) t,
    ))

book_most : (b : Book) → length (book_line b) ≤ 64
unfolding book_line
book_most empty = omega arith
book_most (collecting t ss) = pages_most t (take t ss)
book_most disagree = omega arith

-- so 64 bytes are room enough for any status
pub status_most : (c : List ℕ) → length (status_line c) ≤ 64
unfolding status_line
status_most c = go (book_in c)
  where
    go : (a : Answer Book) → length (line_of a) ≤ 64
    go (done b) = book_most b
    go (refused_at e place) = refused_most e

-- For the reader: the line of R9.12: total 3 with page 1 lacking
pub status_example : (a b : List ℕ) → pages_line 3 (held a ∷ absent ∷ held b ∷ [])
    ≡ ascii "pages 3 held 2 missing 1 disputed 0 first 1" ++ line_feed
unfolding pages_line field decimal first_field count lowest is_absent is_held is_disputed
status_example a b = refl
