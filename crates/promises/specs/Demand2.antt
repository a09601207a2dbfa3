-- The second demand, R1.3, of every format: what was written is read as the same value, and all
-- other bytes are refused, each with the number and the place that a format's `read` gives
-- (Formats.antt).
use Rattle.std.specs.Prelude.{ℕ, suc, ◌≤◌, ◌<◌, ◌≡◌, true, List, ◌∷◌, ◌++◌, length, take}
use borrow.Fn.Kinds.{Out}
use Rattle.wire.specs.Answer.{Answer, done, refused_at}
use Rattle.wire.specs.Every.{without}
use Rattle.wire.specs.Number.{Bytes}
use Rattle.wire.specs.Writing.{told}
use Rattle.typed.specs.Typed.{is_letter, feed, lines_of}
use Rattle.typed.specs.Slip.{line_at, rest}
use Rattle.document_id.specs.Id.{document_id_of}
use Rattle.page.specs.Page.{page_count, page_data, Printed, joined}
use Rattle.page.proofs.write as page-write
use Rattle.page.proofs.write_base64 as page-write-base64
use Rattle.page.proofs.write_zbase32 as page-write-zbase32
use Rattle.payload_frame.proofs.key as payload-frame-key
use Rattle.payload_frame.proofs.auth as payload-frame-auth
use Rattle.promises.specs.Calls.{Call}
use Rattle.promises.specs.Formats.{Format, Exact, Frame, frames, scans, typing, typed_lines, envelopes, manifests, auths, shards}

-- these bytes are read as this value: by every call of the reader
abbrev pub ReadAs : {Place Value : Type 0} (f : Format Place Value) → List ℕ → Value → Type 0
ReadAs {Place = Place} f s v = (a : Answer Place) → f.Reads s a → (p : Place) × (a ≡ done p) × (f.says s p ≡ v)

-- ---- the pages of a document

-- page i of c was asked for, as a frame or as a text of it: out was lent, x was left, a was
-- answered
abbrev pub Printing : Type 1
Printing = List ℕ → ℕ → ℕ → List ℕ → List ℕ → Answer ℕ → Type 0

abbrev pub PageCall : Out 2 page-write.Kinds.ps page-write.Kinds.r → Printing
PageCall contract c size i out x a =
    (k : Call page-write.Kinds.ps page-write.Kinds.r contract)
    × (k.args.0.now ≡ c) × (k.args.1.0 ≡ size) × (k.args.1.1.0 ≡ i) × (k.args.1.1.1.0.now ≡ out) × (k.left.1.1.1.0 ≡ x)
    × (told k.answer ≡ a)

abbrev pub Framed : Printing
Framed = PageCall page-write.Reads.Learnt

abbrev pub Scanned : Printing
Scanned = PageCall page-write-base64.Reads.Learnt

abbrev pub Typed : Printing
Typed = PageCall page-write-zbase32.Reads.Learnt

-- which frame page i is (R7.3)
abbrev pub page_of : List ℕ → ℕ → ℕ → Frame
page_of c size i = record { kind = 0x44; id = document_id_of c; index = i; total = page_count (length c) size; contents = page_data c size i }

-- page i's text is read as page i's frame
abbrev pub ThroughText : (Text : Printing) (Reads : List ℕ → Answer (List ℕ) → Type 0) (c : List ℕ) (size : ℕ) → Type 0
ThroughText Text Reads c size =
    (i : ℕ) → i < page_count (length c) size → (out x : List ℕ) (m : ℕ) (out' y : List ℕ) (n : ℕ) (a : Answer (List ℕ))
    → Framed c size i out x (done m) → Text c size i out' y (done n) → Reads (take n y) a → a ≡ done (take m x)

-- every page of a printed document is written where 500 bytes are lent, and reads back as that
-- page, also through both text forms; and all pages in order are the document (R1.3)
pub record Pages (c : List ℕ) (size : ℕ) : Type 0 where
  pub written : (i : ℕ) → i < page_count (length c) size → (out x : List ℕ) (a : Answer ℕ) → 500 ≤ length out → Framed c size i out x a → (n : ℕ) × (a ≡ done n)
  pub each : (i : ℕ) → i < page_count (length c) size → (out x : List ℕ) (n : ℕ) → Framed c size i out x (done n) → ReadAs frames (take n x) (page_of c size i)
  pub scanned : ThroughText Scanned scans.Reads c size
  pub typed_in : ThroughText Typed typing.Reads c size
  pub whole : joined (page_count (length c) size) (page_data c size) ≡ c

-- ---- key and auth frames

abbrev pub PayloadCall : (contract : Out 3 payload-frame-key.Kinds.ps payload-frame-key.Kinds.r) (id contents out x : List ℕ) (a : Answer ℕ) → Type 0
PayloadCall contract id contents out x a =
    (k : Call payload-frame-key.Kinds.ps payload-frame-key.Kinds.r contract)
    × (k.args.0.now ≡ id) × (k.args.1.0.now ≡ contents) × (k.args.1.1.0.now ≡ out) × (k.left.1.1.0 ≡ x) × (told k.answer ≡ a)

abbrev pub Keyed : (id contents out x : List ℕ) (a : Answer ℕ) → Type 0
Keyed = PayloadCall payload-frame-key.Reads.Learnt

abbrev pub Signed : (id contents out x : List ℕ) (a : Answer ℕ) → Type 0
Signed = PayloadCall payload-frame-auth.Reads.Learnt

-- a frame that stands alone: the first of one (R7.5)
abbrev pub payload_says : ℕ → List ℕ → List ℕ → Frame
payload_says kind id contents = record { kind = kind; id = id; index = 0; total = 1; contents = contents }

-- no payload that was written is too long for a key or auth frame (R11.9): under an id of 8 bytes
-- it is taken where 500 bytes are lent. And a key or auth frame that is written reads back (R1.3),
-- and carries what the payload's reader accepts (R7.5)
pub record Carries {Place Value : Type 0} (f : Format Place Value) (kind : ℕ) (Writer : List ℕ → List ℕ → List ℕ → List ℕ → Answer ℕ → Type 0) : Type 0 where
  pub taken : (v : Value) (lent y : List ℕ) (m : ℕ) → f.Writes v lent y (done m)
      → (id out x : List ℕ) (a : Answer ℕ) → length id ≡ 8 → 500 ≤ length out → Writer id (take m y) out x a → (n : ℕ) × (a ≡ done n)
  pub back : (id contents out x : List ℕ) (n : ℕ) → Writer id contents out x (done n) → ReadAs frames (take n x) (payload_says kind id contents)
  pub accepted : (id contents out x : List ℕ) (n : ℕ) → Writer id contents out x (done n) → (a : Answer Place) → f.Reads contents a → (p : Place) × (a ≡ done p)

-- R1.3, for each format that it names
pub record Demand2 : Type 0 where
  -- pages: any frame; those of a printed document; key and auth frames
  pub pages : Exact frames
  pub printed : (c : List ℕ) (size : ℕ) → Bytes c → Printed c size → Pages c size
  pub keys : Carries shards 0x4B Keyed
  pub signatures : Carries auths 0x41 Signed
  -- both text forms, and typed lines
  pub scan : Exact scans
  pub typed : Exact typing
  pub lines : Exact typed_lines
  -- envelope, manifest, auth and shard payloads
  pub envelope : Exact envelopes
  pub manifest : Exact manifests
  pub auth : Exact auths
  pub shard : Exact shards

-- ---- what is told of a slip of the hand in typed lines that read

-- these bytes were read, and those were answered so
abbrev pub Lines : List ℕ → Answer (List ℕ) → Type 0
Lines = typed_lines.Reads

-- whatever else stands in the text, each of these slips is told with its line (R5.15)
pub record Slips : Type 0 where
  -- one letter for another, among the data or in the check
  pub replaced : (xs ys bs : List ℕ) (c d : ℕ) (a : Answer (List ℕ)) → Lines (xs ++ (c ∷ ys)) (done bs)
      → is_letter c ≡ true → is_letter d ≡ true → (c ≡ d → ⊥)
      → Lines (xs ++ (d ∷ ys)) a → a ≡ refused_at 23 (line_at xs)
  -- two letters that differ, in each other's place on one line, both among the data: at least two
  -- characters follow
  pub exchanged : (xs ys zs bs : List ℕ) (c d : ℕ) (a : Answer (List ℕ)) → Lines (xs ++ (c ∷ ys) ++ (d ∷ zs)) (done bs)
      → is_letter c ≡ true → is_letter d ≡ true → (c ≡ d → ⊥) → without feed ys ≡ true → 2 ≤ length (rest zs)
      → Lines (xs ++ (d ∷ ys) ++ (c ∷ zs)) a → a ≡ refused_at 23 (line_at xs)
  -- two lines of as many characters in each other's place: the first of the two places is told
  pub moved : (s s' bs : List ℕ) (front : List (List ℕ)) (l : List ℕ) (between : List (List ℕ)) (m : List ℕ) (more : List (List ℕ)) (a : Answer (List ℕ))
      → Lines s (done bs) → lines_of s ≡ front ++ (l ∷ between) ++ (m ∷ more) → lines_of s' ≡ front ++ (m ∷ between) ++ (l ∷ more) → length l ≡ length m
      → Lines s' a → a ≡ refused_at 23 (suc (length front))
