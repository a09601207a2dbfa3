-- What open, offer and join refuse has no place. Assumes nothing.
use Prim.Native.Nat.{ℕ}
use mathlib.Core.List.{List}
use Rattle.wire.proofs.Placeless.{Placeless, placeless_done, placeless_then, placeless}
use Rattle.frame.specs.Frame.{frame_of}
use Rattle.frame.proofs.Placeless.{frame_placeless}
use Rattle.book.specs.Read.{id_of, book_in}
use Rattle.book.proofs.Judging.{book_placeless}
use Rattle.collection.specs.Collection.{good_page, opening, offering, joining}

pub open_placeless : (id c : List ℕ) → Placeless (opening id c)
unfolding opening
open_placeless id c = search placeless

pub join_placeless : (c o : List ℕ) → Placeless (joining c o)
unfolding joining
join_placeless c o =
    placeless_then (book_in c) _ (book_placeless c) (λ a. placeless_then (book_in o) _ (book_placeless o) (λ b. search placeless))
