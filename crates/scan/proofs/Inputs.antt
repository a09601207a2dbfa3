-- What a session does, said of its whole input: `pier`'s, and the pantry's up to what was saved.
-- Assumes nothing.
use mathlib.Core.Path.{◌≡◌, refl, sym, ap, ◌∙◌}
use mathlib.Core.Bool.{Bool, true, false}
use mathlib.Core.Logic.{inl, inr}
use mathlib.Core.List.{List, [], ◌∷◌, ◌++◌}
use Prim.Native.Nat.{ℕ, ◌≤◌}
use native.Mathlib.Omega.{arith}
use borrow.Author.Tests.{ne_eqb}
use lib.Dec.{eqb, leb}
use lib.ListN.{length}
use Rattle.wire.specs.Answer.{choose, Answer, done, refused_at}
use Rattle.digits.specs.Decimal.{refused_line}
use Rattle.text.specs.Text.{base64, read_text}
use Rattle.text.proofs.Forms.{base64_lawful}
use Rattle.text.proofs.Round.{text_bytes}
use Rattle.model.specs.Book.{Book}
use Rattle.model.specs.Take.{Page}
use Rattle.model.specs.Meaning.{BookIs}
use Rattle.model.proofs.Sets.{book_one}
use Rattle.model.proofs.Valid.{Valid, book_valid}
use Rattle.book.specs.Read.{id_of, read_book, ok_book}
use Rattle.book.proofs.Judging.{judged_done}
use Rattle.book.proofs.Round.{valid_fits, encode_ok, encode_id, encode_read}
use Rattle.collection.specs.Built.{Built, opened, offered, bytes_of, offered_all, PageAmong, AllBytes}
use Rattle.collection.proofs.Demand.{list_saved, list_meant}
use Rattle.collection.proofs.Good.{good_page_lem}
use Rattle.status.specs.Line.{book_line, status_line}
use Rattle.scan.specs.Id.{id_verdict}
use Rattle.scan.specs.Session as S
use Rattle.scan.specs.Session.{scanned, At, ended, next, fed, reported}
use Rattle.scan.specs.Input.{lines, first_id, further, with_scan, scans_in, document_of, scans_of, collection_of, printed_of, printed, new, session}
use Rattle.scan.proofs.Scans.{id_eight}
use Rattle.scan.proofs.Reading.{stage, holding_line, lined, lined_all, stands_new, reads_lines}

-- in whatever parts the input came
pub fed_append : (s : At) (xs ys : List ℕ) → fed s (xs ++ ys) ≡ fed (fed s xs) ys
unfolding fed
fed_append s [] ys = refl
fed_append s (x ∷ xs) ys = fed_append (next s x) xs ys

-- ---- what lines do, in each phase

-- a line of a session that collects is passed over, or its scan is offered
collects_line : (c l : List ℕ) → lined (1, c) l ≡ (1, scanned c l)
unfolding lined ended
collects_line c l = rw (holding_line (1, c) l)

module _ (id : List ℕ) where
  -- so all lines leave what all their scans leave
  collects_lines : (ls : List (List ℕ)) (h : Built) → lined_all (1, bytes_of id h) ls ≡ (1, bytes_of id (offered_all (scans_in ls) h))
  unfolding lined_all scans_in scanned offered_all bytes_of
  collects_lines [] h = refl
  collects_lines (l ∷ ls) h = rw (collects_line (bytes_of id h) l) (go (collects_lines ls) (leb (length l) 1024) (read_text base64 l))
    where
      go : ((g : Built) → lined_all (1, bytes_of id g) ls ≡ (1, bytes_of id (offered_all (scans_in ls) g))) → (t : Bool) (v : Answer (List ℕ))
          → lined_all (1, choose t (S.offered (bytes_of id h) v) (bytes_of id h)) ls ≡ (1, bytes_of id (offered_all (choose t (with_scan v (scans_in ls)) (scans_in ls)) h))
      go more true (done raw) = more (offered raw h)
      go more true (refused_at e place) = more h
      go more false v = more h

-- once refused, no line does anything
refused_lines : (c : List ℕ) (ls : List (List ℕ)) → lined_all (2, c) ls ≡ (2, c)
unfolding lined_all lined ended
refused_lines c [] = refl
refused_lines c (l ∷ ls) = refused_lines c ls

-- the first line decides
module _ (c l : List ℕ) where
  opening_line : (id : List ℕ) → id_verdict l ≡ done id → lined (0, c) l ≡ (1, bytes_of id (opened c))
  unfolding lined ended bytes_of
  opening_line id e = rw (holding_line (0, c) l, e)

  refused_line_lem : (n k : ℕ) → id_verdict l ≡ refused_at n k → lined (0, c) l ≡ (2, c)
  unfolding lined ended
  refused_line_lem n k e = rw (holding_line (0, c) l, e)

-- ---- a session over its whole input

module _ (line c : List ℕ) (room : 1025 ≤ length line) (input : List ℕ) where
  reads : stage (session line c input) ≡ lined_all (0, c) (lines input)
  reads = reads_lines input (new line c) [] (stands_new (new line c) refl room)

  -- the first line is an id: the session collects, and its collection is that of all scans
  pub session_collects : (id : List ℕ) → document_of input ≡ done id
      → ((session line c input).phase ≡ 1) × ((session line c input).collection ≡ collection_of c id (scans_of input))
  unfolding document_of scans_of lined_all
  session_collects id = go (lines input) refl
    where
      go : (ls : List (List ℕ)) → lines input ≡ ls → first_id ls ≡ done id
          → ((session line c input).phase ≡ 1) × ((session line c input).collection ≡ collection_of c id (scans_in (further ls)))
      go [] e h = absurd (let z : ◌≡◌ {A = ℕ} 0 1 = cc in omega arith)
      go (l ∷ ls) e h =
          let f : stage (session line c input) ≡ (1, collection_of c id (scans_in ls)) =
          reads ∙ ap (lined_all (0, c)) e ∙ ap (λ (g : ℕ × List ℕ). lined_all g ls) (opening_line c l id h) ∙ collects_lines id ls (opened c) in
          (ap (λ (g : ℕ × List ℕ). g.0) f, ap (λ (g : ℕ × List ℕ). g.1) f)

  -- it is none, or there is no line: the session does not collect, and no byte of c is changed
  pub session_refused : (n k : ℕ) → document_of input ≡ refused_at n k → ((session line c input).phase ≡ 1 → ⊥) × ((session line c input).collection ≡ c)
  unfolding document_of lined_all
  session_refused n k = go (lines input) refl
    where
      told : (j : ℕ) → (j ≡ 1 → ⊥) → stage (session line c input) ≡ (j, c) → ((session line c input).phase ≡ 1 → ⊥) × ((session line c input).collection ≡ c)
      told j h f = ((λ q. h (sym (ap (λ (g : ℕ × List ℕ). g.0) f) ∙ q)), ap (λ (g : ℕ × List ℕ). g.1) f)

      go : (ls : List (List ℕ)) → lines input ≡ ls → first_id ls ≡ refused_at n k → ((session line c input).phase ≡ 1 → ⊥) × ((session line c input).collection ≡ c)
      go [] e h = told 0 (λ q. omega arith) (reads ∙ ap (lined_all (0, c)) e)
      go (l ∷ ls) e h =
          told 2 (λ q. omega arith)
          (reads ∙ ap (lined_all (0, c)) e ∙ ap (λ (g : ℕ × List ℕ). lined_all g ls) (refused_line_lem c l n k h) ∙ refused_lines c ls)

  -- For the reader: what is reported is what is to be printed
  pub session_prints : reported (session line c input).phase (session line c input).collection ≡ printed c input
  unfolding printed reported
  session_prints = go (document_of input) refl
    where
      go : (v : Answer (List ℕ)) → document_of input ≡ v
          → choose (eqb (session line c input).phase 1) (status_line (session line c input).collection) (refused_line 19) ≡ printed_of c v (scans_of input)
      go (done id) e = let f = session_collects id e in rw (f.0, f.1)
      go (refused_at n place) e = let f = session_refused n place e in rw (ne_eqb (session line c input).phase 1 f.0)

-- ---- the same, of the SET of good pages among the scans

with_bytes : (t : Bool) (l : List ℕ) (raws : List (List ℕ)) → AllBytes raws → AllBytes (choose t (with_scan (read_text base64 l) raws) raws)
with_bytes false l raws y = y
with_bytes true l raws y = go (read_text base64 l) refl
  where
    go : (v : Answer (List ℕ)) → read_text base64 l ≡ v → AllBytes (with_scan v raws)
    go (done bs) e raw (inl q) = rw q (text_bytes base64 base64_lawful l bs e)
    go (done bs) e raw (inr a) = y raw a
    go (refused_at n place) e raw a = y raw a

scans_bytes : (ls : List (List ℕ)) → AllBytes (scans_in ls)
unfolding scans_in
scans_bytes [] = λ raw a. absurd a
scans_bytes (l ∷ ls) = with_bytes (leb (length l) 1024) l (scans_in ls) (scans_bytes ls)

-- the scans of any input are bytes
pub all_bytes : (input : List ℕ) → AllBytes (scans_of input)
unfolding scans_of
all_bytes input = scans_bytes (further (lines input))

-- the id of a document has 8 bytes
pub document_eight : (input id : List ℕ) → document_of input ≡ done id → length id ≡ 8
unfolding document_of
document_eight input id = go (lines input)
  where
    go : (ls : List (List ℕ)) → first_id ls ≡ done id → length id ≡ 8
    go [] h = absurd (let z : ◌≡◌ {A = ℕ} 0 1 = cc in omega arith)
    go (l ∷ ls) h = id_eight l id h

-- a collection of scans is well formed, of its document, and says what the good pages among them
-- say
module _ (id : List ℕ) (eight : length id ≡ 8) (c : List ℕ) (size : length c ≡ 49664) (raws : List (List ℕ)) (y : AllBytes raws) where
  pub list_says : (ok_book (collection_of c id raws) ≡ true) × (id_of (collection_of c id raws) ≡ id) × BookIs (PageAmong id raws) (read_book (collection_of c id raws))
  list_says =
      let (b, m) = list_meant id eight c raws size y in
      let v : Valid b = book_valid (PageAmong id raws) (λ p (raw, a, (next, g)). (good_page_lem id raw p next (y raw a) g).good) b m in
      let f = valid_fits b v in
      rw (list_saved id eight c raws size y b m) (encode_ok id eight b v, encode_id id eight b f, rw (encode_read id eight b f) m)

-- its status line is that of any collection that says the same set
pub status_says : (S : Page → Type 0) (x : List ℕ) → ok_book x ≡ true → BookIs S (read_book x) → (b : Book) → BookIs S b → status_line x ≡ book_line b
unfolding status_line
status_says S x ok m b w = rw (judged_done x ok) (ap book_line (book_one S (read_book x) b m w))

-- For the reader: what is printed depends on nothing else: whatever was in the lent buffer, and in
-- whatever order and number the scans came
pub prints_set : (c input id : List ℕ) → length c ≡ 49664 → document_of input ≡ done id → (b : Book) → BookIs (PageAmong id (scans_of input)) b
    → printed c input ≡ book_line b
unfolding printed
prints_set c input id size e b m =
    let (ok, i, says) = list_says id (document_eight input id e) c size (scans_of input) (all_bytes input) in
    rw e (status_says (PageAmong id (scans_of input)) (collection_of c id (scans_of input)) ok says b m)
