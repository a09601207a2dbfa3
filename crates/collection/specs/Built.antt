-- How a collection came to be, and which good pages were offered on the way: the words of R1.4 and
-- R1.5.
use Rattle.std.specs.Prelude.{◌≡◌, ◌⊎◌, List, [], ◌∷◌, ℕ, length, true}
use Rattle.wire.specs.Answer.{got, bytes_after}
use Rattle.wire.specs.Number.{Bytes}
use Rattle.wire.specs.Sizes.{collection_size}
use Rattle.model.specs.Take.{Page}
use Rattle.collection.specs.Collection.{good_page, opening, offering, joining}
use Rattle.book.specs.Read.{id_of, ok_book}

-- a lent buffer opened; a raw frame, any bytes, offered to one; another joined into one
pub data Built : Type 0 where
  opened : List ℕ → Built
  offered : List ℕ → Built → Built
  joined : Built → Built → Built

-- the bytes that it then has: what the contracts of open, offer and join leave, one call after
-- another
unfoldable pub bytes_of : List ℕ → Built → List ℕ
bytes_of id (opened c) = bytes_after c (opening id c)
bytes_of id (offered raw h) = bytes_after (bytes_of id h) (offering (bytes_of id h) raw)
bytes_of id (joined g h) = bytes_after (bytes_of id g) (joining (bytes_of id g) (bytes_of id h))

-- raw is the good page p of the document (R9.2)
abbrev pub Says : List ℕ → List ℕ → Page → Type 0
Says id raw p = (next : ℕ) × (good_page id raw ≡ got p next)

-- the set of good pages that were offered, anywhere in it: a bad scan and a stranger's page say no
-- page (R1.4), and a join unites two sets (R1.5)
abbrev pub In : List ℕ → Built → Page → Type 0
In id (opened c) p = ⊥
In id (offered raw h) p = In id h p ⊎ Says id raw p
In id (joined g h) p = In id g p ⊎ In id h p

-- what was lent: a collection's size to open, and frames of bytes
abbrev pub Lent : Built → Type 0
Lent (opened c) = length c ≡ collection_size
Lent (offered raw h) = Bytes raw × Lent h
Lent (joined g h) = Lent g × Lent h

-- ---- a list of raw frames

-- offered one after another
unfoldable pub offered_all : List (List ℕ) → Built → Built
offered_all [] h = h
offered_all (raw ∷ raws) h = offered_all raws (offered raw h)

-- one of them is raw
abbrev pub Among : List (List ℕ) → List ℕ → Type 0
Among [] raw = ⊥
Among (x ∷ xs) raw = (raw ≡ x) ⊎ Among xs raw

-- the set of good pages among them
abbrev pub PageAmong : List ℕ → List (List ℕ) → Page → Type 0
PageAmong id raws p = (raw : List ℕ) × Among raws raw × Says id raw p

-- all of them hold bytes
abbrev pub AllBytes : List (List ℕ) → Type 0
AllBytes raws = (raw : List ℕ) → Among raws raw → Bytes raw

-- c is well formed, and id is its document
abbrev pub Of : List ℕ → List ℕ → Type 0
Of id c = (ok_book c ≡ true) × (id ≡ id_of c)
