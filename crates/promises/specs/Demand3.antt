-- The third demand, R1.4 to R1.6: what a collection saves is fixed by the SET of good pages that
-- were offered to it. Neither their order, nor repeats, nor bad scans, nor pages of other documents
-- can be seen in its bytes; a join is a union; and finish gives the ciphertext exactly when the set
-- is complete, in one version, and the document's own.
--
-- How a collection came to be is a `Built` (collection, Built): opened, any bytes offered, others
-- joined, in any order; `In` is the set of good pages that were offered in it. What a collection is
-- for a SET of pages, without order or count, is `BookIs` (model, Meaning), its bytes are `encode`
-- (book, Encode), and when a set is complete is `Complete` (model, Complete).
use Rattle.std.specs.Prelude.{◌≡◌, ◌↔◌, List, ◌++◌, ℕ, ◌≤◌, length, take}
use Rattle.wire.specs.Answer.{Answer, done, refused}
use Rattle.wire.specs.Number.{Bytes}
use Rattle.wire.specs.Sizes.{most_pages, id_size, collection_size}
use Rattle.wire.specs.Over.{over}
use Rattle.model.specs.Book.{Book}
use Rattle.model.specs.Take.{Page}
use Rattle.model.specs.Meaning.{BookIs}
use Rattle.book.specs.Encode.{encode}
use Rattle.collection.specs.Collection.{good_page}
use Rattle.collection.specs.Built.{Built, opened, offered, joined, Says, In, Lent, offered_all, PageAmong, AllBytes}
use Rattle.finish.specs.Sets.{Answers}
use Rattle.mend.specs.Mend.{Mends}
use Rattle.status.specs.declared.standing.Numbers.{Numbers}
use Rattle.status.specs.Sets.{LineIs, NumbersAre, StatesAre}
use Rattle.phone.specs.Packed.{number_in, place_in, byte_in}
use Rattle.promises.specs.Collecting.{Interface, library, phone, Tells, Mended, Shows, Sees}

-- x is what calls of open, offer and join left, one after another, whatever each answered
abbrev pub Left : (f : Interface) (id : List ℕ) (h : Built) (x : List ℕ) → Type 0
Left f id (opened c) x = f.Opens id c x
Left f id (offered raw h) x = (c : List ℕ) × Left f id h c × f.Offers c raw x
Left f id (joined g h) x = (c : List ℕ) × (o : List ℕ) × Left f id g c × Left f id h o × f.Joins c o x

-- the same good pages were offered in both
abbrev pub SamePages : List ℕ → Built → Built → Type 0
SamePages id g h = ((p : Page) → In id g p → In id h p) × ((p : Page) → In id h p → In id g p)

-- R1.4, R1.5 and R1.6, of the functions of an interface
pub record Demand3 (f : Interface) (id : List ℕ) : Type 0 where
  -- nothing below is said of calls that cannot be: each can be made, with any bytes (R1.1), and so
  -- for every history
  pub happens : (h : Built) → (x : List ℕ) × Left f id h x
  pub finishes : (c out : List ℕ) → (x : List ℕ) × (a : Answer ℕ) × f.Finishes c out x a
  -- the set says one collection, and the saved bytes are its bytes (R1.4)
  pub meant : (h : Built) → Lent h → (b : Book) × BookIs (In id h) b
  pub saved : (h : Built) (x : List ℕ) → Lent h → Left f id h x → (b : Book) → BookIs (In id h) b → x ≡ encode id b
  -- order and repeats: only the set counts (R1.4)
  pub set : (g h : Built) (x y : List ℕ) → Lent g → Lent h → Left f id g x → Left f id h y → SamePages id g h → x ≡ y
  -- a bad scan, or a page of another document, changes nothing (R1.2, R1.4)
  pub strangers : (h : Built) (c raw x : List ℕ) (e : ℕ) → Lent h → Left f id h c → good_page id raw ≡ refused e → f.Offers c raw x → x ≡ c
  -- a join is a union: what offering all pages of both to one would have left (R1.5)
  pub unions : (e g h : Built) (x y : List ℕ) → Lent e → Lent g → Lent h → Left f id e x → Left f id (joined g h) y → SamePages id e (joined g h) → x ≡ y
  -- in any order and any grouping, and any number of times (R1.5)
  pub order : (g h : Built) (x y : List ℕ) → Lent g → Lent h → Left f id (joined g h) x → Left f id (joined h g) y → x ≡ y
  pub grouping : (e g h : Built) (x y : List ℕ) → Lent e → Lent g → Lent h → Left f id (joined (joined e g) h) x → Left f id (joined e (joined g h)) y → x ≡ y
  pub again : (h : Built) (x y : List ℕ) → Lent h → Left f id h x → Left f id (joined h h) y → x ≡ y
  -- any list of scans, offered to a collection that was just opened, leaves the bytes that the set
  -- of its good pages says (R1.4)
  pub list : (c x : List ℕ) (raws : List (List ℕ)) → length c ≡ collection_size → AllBytes raws → Left f id (offered_all raws (opened c)) x
      → (b : Book) → BookIs (PageAmong id raws) b → x ≡ encode id b
  -- and two collections of two lists, joined, have the bytes of one to which both lists were
  -- offered (R1.5)
  pub lists : (c d e x y : List ℕ) (xs ys : List (List ℕ)) → length c ≡ collection_size → length d ≡ collection_size → length e ≡ collection_size → AllBytes xs → AllBytes ys
      → Left f id (joined (offered_all xs (opened c)) (offered_all ys (opened d))) x → Left f id (offered_all (xs ++ ys) (opened e)) y → x ≡ y
  -- finish: the ciphertext exactly when the set is complete, in one version, and its document id is
  -- the one that was opened (R1.6); each refusal exactly when its condition holds; and with room
  -- enough never for want of room
  pub finish : (h : Built) (c out x : List ℕ) (a : Answer ℕ) → Lent h → Left f id h c → f.Finishes c out x a → Answers (In id h) id out x a

-- what is told of a collection, beside the four calls
pub record Telling (id : List ℕ) : Type 0 where
  -- the status line of what was offered (R9.12, R9.13): 64 bytes are room for any
  pub status : (h : Built) (c out x : List ℕ) (a : Answer ℕ) → Lent h → Left library id h c → 64 ≤ length out → Tells c out x a
      → (line : List ℕ) × LineIs (In id h) line × (a ≡ done (length line)) × (x ≡ over 0 line out)
  -- a damaged file (R9.11): outside the rest, since what mend makes absent may have been offered
  pub mend : (c x : List ℕ) (a : Answer ℕ) → Mended c x a → Mends c x a

-- a number of `stilt_status`, read apart as the header does (R16.3)
pub record Apart (n : ℕ) (m : Numbers) : Type 0 where
  pub number : number_in n ≡ 0
  pub place : place_in n ≡ m.stands
  pub total : byte_in 0 n ≡ m.total
  pub held : byte_in 1 n ≡ m.held
  pub missing : byte_in 2 n ≡ m.missing
  pub disputed : byte_in 3 n ≡ m.disputed

-- what an app shows on its screen, by the calls for C
pub record Showing (id : List ℕ) : Type 0 where
  -- where a collection stands, and each page of it, by the good pages that were offered (R16.3)
  pub status : (h : Built) (c out x : List ℕ) (n : ℕ) → Lent h → Left phone id h c → most_pages ≤ length out → Shows c out x n
      → (m : Numbers) × (states : List ℕ) × NumbersAre (In id h) m × StatesAre (In id h) states × Apart n m × (x ≡ over 0 states out)
  -- a frame is a page of this document, for an offer, exactly where it is told to be a main frame
  -- of this id; and then of this index and total (R16.4)
  pub ours : (raw out x : List ℕ) (n : ℕ) → Bytes raw → id_size ≤ length out → Sees raw out x n
      → ((p : Page) × Says id raw p) ↔ ((number_in n ≡ 0) × (byte_in 1 n ≡ 0x44) × (take id_size x ≡ id))
  pub page : (raw out x : List ℕ) (n : ℕ) (p : Page) → Bytes raw → id_size ≤ length out → Sees raw out x n → Says id raw p
      → (place_in n ≡ p.index) × (byte_in 0 n ≡ p.total)
  -- and no frame is longer: the header's STILT_FRAME_MOST
  pub short : (raw out x : List ℕ) (n : ℕ) → Bytes raw → id_size ≤ length out → Sees raw out x n → number_in n ≡ 0 → length raw ≤ 500
