-- A call leaves what is well formed well formed, and of its document: also where the collection did
-- not come from open. Assumes nothing.
use mathlib.Core.Path.{◌≡◌, refl, sym, ap, ◌∙◌}
use mathlib.Core.Bool.{Bool, true, false}
use mathlib.Core.List.{List}
use Prim.Native.Nat.{ℕ}
use borrow.Author.Tests.{eq-eqb}
use lib.ListN.{length}
use Rattle.wire.specs.Answer.{choose, Answer, done, refused_at, refused, then, Got, Change, leaves, bytes_after}
use Rattle.wire.specs.Number.{Bytes}
use Rattle.lend.specs.Same.{same}
use Rattle.model.specs.Book.{Book, empty}
use Rattle.model.specs.Take.{Page, take_page, join_book}
use Rattle.model.proofs.Valid.{Valid, valid_empty, valid_take, valid_join}
use Rattle.book.specs.Encode.{encode}
use Rattle.book.specs.Read.{id_of, read_book, book_in}
use Rattle.book.proofs.Judging.{judged_done, judged_only}
use Rattle.book.proofs.Decode.{ok_id, decoded_valid}
use Rattle.book.proofs.Round.{valid_fits, encode_ok, encode_id}
use Rattle.collection.specs.Collection.{good_page, opening, taking, offering, joining}
use Rattle.collection.specs.Built.{Of}
use Rattle.collection.proofs.Good.{good_page_lem}

encoded : (id : List ℕ) (b : Book) → length id ≡ 8 → Valid b → Of id (encode id b)
encoded id b eight v = (encode_ok id eight b v, sym (encode_id id eight b (valid_fits b v)))

-- open makes a well-formed collection of the document
pub open_makes : (id c : List ℕ) → length id ≡ 8 → length c ≡ 49664 → Of id (bytes_after c (opening id c))
unfolding opening
open_makes id c eight size = rw (eq-eqb (length id) 8 eight, eq-eqb (length c) 49664 size) (encoded id empty eight valid_empty)

module _ (id c : List ℕ) (o : Of id c) where
  eight : length id ≡ 8
  eight = ap length o.1 ∙ ok_id c o.0

  -- an offer of any bytes keeps it so
  pub offer_keeps : (raw : List ℕ) → Bytes raw → Of id (bytes_after c (offering c raw))
  unfolding offering
  offer_keeps raw y = rw (judged_done c o.0) (go (good_page (id_of c) raw) (ap (λ (i : List ℕ). good_page i raw) o.1))
    where
      go : (g : Got Page) → good_page id raw ≡ g → Of id (bytes_after c (taking (id_of c) (read_book c) g))
      go (done (p, next)) e =
          rw (← o.1) (encoded id (take_page p (read_book c)) eight (valid_take p (read_book c) (good_page_lem id raw p next y e).good (decoded_valid c o.0)))
      go (refused_at e place) q = o

  -- For the reader: a join of anything keeps it so too
  pub join_keeps : (other : List ℕ) → Of id (bytes_after c (joining c other))
  unfolding joining
  join_keeps other = rw (judged_done c o.0) (go (book_in other) (same (id_of c) (id_of other)) refl)
    where
      go : (a : Answer Book) (w : Bool) → book_in other ≡ a
          → Of id (bytes_after c (then a (λ b. choose {A = Change Unit} w (leaves (encode (id_of c) (join_book (read_book c) b)) tt) (refused 12))))
      go (done b) true e =
          let j = judged_only other b e in
          rw (← o.1) (encoded id (join_book (read_book c) b) eight (valid_join (read_book c) b (decoded_valid c o.0) (rw j.1 (decoded_valid other j.0))))
      go (done b) false e = o
      go (refused_at n place) w e = o
