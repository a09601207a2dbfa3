-- The whole input of `pier`, and what it prints for it: section 15 of docs/RULES.md. Session.antt
-- says the same byte by byte, as the code goes; proofs/Inputs.antt shows that the two agree.
use Rattle.std.specs.Prelude.{List, [], ◌∷◌, ℕ, eqb, leb, length}
use Rattle.wire.specs.Answer.{choose, Answer, done, refused_at, refused}
use Rattle.digits.specs.Decimal.{refused_line}
use Rattle.text.specs.Text.{base64, read_text}
use Rattle.collection.specs.Built.{opened, bytes_of, offered_all}
use Rattle.status.specs.Line.{status_line}
use Rattle.scan.specs.Id.{id_verdict}
use Rattle.scan.specs.Session.{At, fed, closed}

-- ---- lines

-- one more byte at the front of the first line
abbrev pub in_front : ℕ → List (List ℕ) → List (List ℕ)
in_front b [] = (b ∷ []) ∷ []
in_front b (l ∷ ls) = (b ∷ l) ∷ ls

-- the input cut at line feeds (R15.3). A line feed ends a line and is no part of it. The last line
-- may lack it: behind one that ends the input no further line stands, and where there are no bytes
-- there is no line. A carriage return belongs to its line
unfoldable pub lines : List ℕ → List (List ℕ)
lines [] = []
lines (b ∷ bs) = choose (eqb b 10) ([] ∷ lines bs) (in_front b (lines bs))

-- ---- the document, and the scans

-- the first line names the document (R15.1). Where there is no line, that is as a line that is no
-- id (R15.3)
abbrev pub first_id : List (List ℕ) → Answer (List ℕ)
first_id [] = refused 19
first_id (l ∷ ls) = id_verdict l

abbrev pub further : List (List ℕ) → List (List ℕ)
further [] = []
further (l ∷ ls) = ls

-- a text that reads says a raw frame, which goes in front of those of the later lines
abbrev pub with_scan : Answer (List ℕ) → List (List ℕ) → List (List ℕ)
with_scan (done raw) raws = raw ∷ raws
with_scan (refused_at e place) raws = raws

-- the raw frames that lines say, in their order: a line of more than 1,024 bytes, and one that is
-- no base64 text, say none (R15.2)
unfoldable pub scans_in : List (List ℕ) → List (List ℕ)
scans_in [] = []
scans_in (l ∷ ls) = choose (leb (length l) 1024) (with_scan (read_text base64 l) (scans_in ls)) (scans_in ls)

-- of a whole input: the document, and the scans in all its further lines
unfoldable pub document_of : List ℕ → Answer (List ℕ)
document_of input = first_id (lines input)

unfoldable pub scans_of : List ℕ → List (List ℕ)
scans_of input = scans_in (further (lines input))

-- ---- what is printed

-- the collection of the document id once all of raws were offered to it, in a lent buffer c. What c
-- held before makes no difference (`prints_set` of proofs/Inputs.antt)
abbrev pub collection_of : List ℕ → List ℕ → List (List ℕ) → List ℕ
collection_of c id raws = bytes_of id (offered_all raws (opened c))

-- its status line, or `refused 19` where no document is named (R15.1)
abbrev pub printed_of : List ℕ → Answer (List ℕ) → List (List ℕ) → List ℕ
printed_of c (done id) raws = status_line (collection_of c id raws)
printed_of c (refused_at e place) raws = refused_line 19

unfoldable pub printed : List ℕ → List ℕ → List ℕ
printed c input = printed_of c (document_of input) (scans_of input)

-- ---- the session that reads it

-- before the first byte, with the buffers line and c lent to it
abbrev pub new : List ℕ → List ℕ → At
new line c = record { phase = 0; len = 0; line = line; collection = c }

-- and at the end of the input
abbrev pub session : List ℕ → List ℕ → List ℕ → At
session line c input = closed (fed (new line c) input)
