-- R1.4 to R1.6 for the two programs that collect, `pier` and `pantry` (section 15 of
-- docs/RULES.md): by the calls that they make of `scan`, `notes` and `pantry_work`, over their
-- whole input, in whatever parts it was read. What the input says is `document_of` and `scans_of`
-- (scan, Input): the id that its first line names (R15.1), and the raw frames that its other lines
-- say (R15.2). The programs themselves read, print and keep files, which no contract can speak of:
-- that is tested.
use Rattle.std.specs.Prelude.{◌≡◌, Bool, true, false, ℕ, ◌≤◌, length}
use mathlib.Core.List.{List, [], ◌∷◌, ◌++◌, flatten}
use Rattle.wire.specs.Answer.{Answer, done, refused}
use Rattle.wire.specs.Sizes.{collection_size}
use Rattle.wire.specs.Over.{over}
use Rattle.wire.specs.Writing.{told}
use Rattle.digits.specs.Decimal.{refused_line}
use Rattle.model.specs.Book.{Book}
use Rattle.model.specs.Meaning.{BookIs}
use Rattle.book.specs.Encode.{encode}
use Rattle.book.specs.Read.{id_of, ok_book}
use Rattle.collection.specs.Answer as collection
use Rattle.collection.specs.Built.{opened, offered_all, PageAmong, AllBytes}
use Rattle.wire.specs.Reading.{told_at}
use Rattle.finish.specs.Sets.{Answers}
use Rattle.status.specs.Sets.{LineIs}
use Rattle.scan.specs.Session.{At, at}
use Rattle.scan.specs.Input.{document_of, scans_of, new}
use Rattle.scan.proofs.session.feed as scan-session-feed
use Rattle.scan.proofs.session.close as scan-session-close
use Rattle.scan.proofs.session.report as scan-session-report
use Rattle.notes.proofs.feed as notes-feed
use Rattle.notes.proofs.close as notes-close
use Rattle.pantry_work.proofs.resume as pantry-work-resume
use Rattle.pantry_work.proofs.answer as pantry-work-answer
use Rattle.promises.specs.Calls.{Call}
use Rattle.promises.specs.Collecting.{library}
use Rattle.promises.specs.Demand3.{Left}

-- ---- the calls: where a session is (`At`: its phase, the line so far, the collection) before and
-- after

-- `pier` reads by the calls of `scan` (false), and `pantry` by those of `notes`, which takes notes
-- beside them (true)
abbrev pub Feeds : (noting : Bool) → List ℕ → At → At → Type 0
Feeds false part s t =
    (k : Call scan-session-feed.Kinds.ps scan-session-feed.Kinds.r scan-session-feed.Reads.Learnt)
    × (k.args.0.now ≡ part) × (at k.args.1.0 k.args.1.1.0.now k.args.1.1.1.0.now ≡ s)
    × (at k.answer k.left.1.1.0 k.left.1.1.1.0 ≡ t)
Feeds true part s t =
    (k : Call notes-feed.Kinds.ps notes-feed.Kinds.r notes-feed.Reads.Learnt)
    × (k.args.0.now ≡ part) × (at k.args.1.0 k.args.1.1.0.now k.args.1.1.1.0.now ≡ s)
    × (at k.answer k.left.1.1.0 k.left.1.1.1.0 ≡ t)

abbrev pub FeedsAll : Bool → List (List ℕ) → At → At → Type 0
FeedsAll b [] s t = s ≡ t
FeedsAll b (part ∷ parts) s t = (m : At) × Feeds b part s m × FeedsAll b parts m t

abbrev pub Closes : (noting : Bool) → At → At → Type 0
Closes false s t =
    (k : Call scan-session-close.Kinds.ps scan-session-close.Kinds.r scan-session-close.Reads.Learnt)
    × (at k.args.0 k.args.1.0.now k.args.1.1.0.now ≡ s) × (at k.answer k.args.1.0.now k.left.1.1.0 ≡ t)
Closes true s t =
    (k : Call notes-close.Kinds.ps notes-close.Kinds.r notes-close.Reads.Learnt)
    × (at k.args.0 k.args.1.0.now k.args.1.1.0.now ≡ s) × (at k.answer k.args.1.0.now k.left.1.1.0 ≡ t)

-- a session from its first byte to the end of its input, in a line buffer and a buffer for the
-- collection
abbrev pub Runs : (noting : Bool) (parts : List (List ℕ)) (line c : List ℕ) (t : At) → Type 0
Runs b parts line c t = (s : At) × FeedsAll b parts (new line c) s × Closes b s t

-- pier's line, of the session's phase and collection
abbrev pub Reports : (phase : ℕ) (c out x : List ℕ) (a : Answer ℕ) → Type 0
Reports phase c out x a =
    (k : Call scan-session-report.Kinds.ps scan-session-report.Kinds.r scan-session-report.Reads.Learnt)
    × (k.args.0.phase ≡ phase) × (k.args.1.0.now ≡ c) × (k.args.1.1.0.now ≡ out) × (k.left.1.1.0 ≡ x) × (told k.answer ≡ a)

-- the pantry takes up what was saved: x is then the session's collection, and what is kept
abbrev pub Resumes : (phase : ℕ) (c saved x : List ℕ) (a : Answer Unit) → Type 0
Resumes phase c saved x a =
    (k : Call pantry-work-resume.Kinds.ps pantry-work-resume.Kinds.r pantry-work-resume.Reads.Learnt)
    × (k.args.0.phase ≡ phase) × (k.args.1.0.now ≡ saved) × (k.args.1.1.0.now ≡ c) × (k.left.1.1.0 ≡ x) × (collection.told k.answer ≡ a)

-- what the pantry gives out: it prints what then stands in front of x, as many bytes as a says, or
-- nothing
abbrev pub Shows : (phase : ℕ) (c out x : List ℕ) (a : Answer ℕ) → Type 0
Shows phase c out x a =
    (k : Call pantry-work-answer.Kinds.ps pantry-work-answer.Kinds.r pantry-work-answer.Reads.Learnt)
    × (k.args.0.phase ≡ phase) × (k.args.1.0.now ≡ c) × (k.args.1.1.0.now ≡ out) × (k.left.1.1.0 ≡ x) × (told_at k.answer ≡ a)

-- the whole of a text was laid in front of out
abbrev pub Laid : (text out x : List ℕ) (a : Answer ℕ) → Type 0
Laid text out x a = (a ≡ done (length text)) × (x ≡ over 0 text out)

-- ---- what they say

-- in whatever parts the input came, and whoever read it, the session ends the same; and it can be
-- read in any
pub record Parts : Type 0 where
  pub happens : (b : Bool) (ps : List (List ℕ)) (line c : List ℕ) → (t : At) × Runs b ps line c t
  pub same : (b d : Bool) (ps qs : List (List ℕ)) (line c : List ℕ) (s t : At) → flatten ps ≡ flatten qs → Runs b ps line c s → Runs d qs line c t → s ≡ t

-- a session t whose input names the document id and has the scans xs
pub record Collects (id : List ℕ) (xs : List (List ℕ)) (t : At) : Type 0 where
  -- it has collected the set of the good pages among its scans (R1.4)
  pub collecting : t.phase ≡ 1
  pub saved : (b : Book) → BookIs (PageAmong id xs) b → t.collection ≡ encode id b
  -- pier's line says that set (R15.1): 64 bytes are room for any
  pub pier : (out x : List ℕ) (a : Answer ℕ) → 64 ≤ length out → Reports t.phase t.collection out x a
      → (line : List ℕ) × LineIs (PageAmong id xs) line × Laid line out x a
  -- the pantry without a file gives out what finish says of that set (R1.6, R15.6)
  pub pantry : (out x : List ℕ) (a : Answer ℕ) → Shows t.phase t.collection out x a → Answers (PageAmong id xs) id out x a
  -- with a file that holds what calls with the scans ys left: it keeps the collection of both, and
  -- gives out what finish says of that (R1.5, R15.7)
  pub keeps : (ys : List (List ℕ)) (d saved y : List ℕ) (r : Answer Unit) → AllBytes ys → length d ≡ collection_size → Left library id (offered_all ys (opened d)) saved
      → Resumes t.phase t.collection saved y r → (r ≡ done tt) × ((b : Book) → BookIs (PageAmong id (xs ++ ys)) b → y ≡ encode id b)
  pub prints : (ys : List (List ℕ)) (d saved y : List ℕ) (r : Answer Unit) (out x : List ℕ) (a : Answer ℕ) → AllBytes ys → length d ≡ collection_size
      → Left library id (offered_all ys (opened d)) saved → Resumes t.phase t.collection saved y r → Shows t.phase y out x a
      → Answers (PageAmong id (xs ++ ys)) id out x a
  -- a file that is no collection is refused with 13, one of another document with 12, and the
  -- session's collection stays (R15.7)
  pub damaged : (saved y : List ℕ) (r : Answer Unit) → ok_book saved ≡ false → Resumes t.phase t.collection saved y r → (r ≡ refused 13) × (y ≡ t.collection)
  pub another : (saved y : List ℕ) (r : Answer Unit) → ok_book saved ≡ true → (id_of saved ≡ id → ⊥) → Resumes t.phase t.collection saved y r
      → (r ≡ refused 12) × (y ≡ t.collection)

-- a session whose input names no document: c is as it was lent, both programs refuse with 19
-- (R15.1, R15.6), and no file is taken up
pub record Waits (c : List ℕ) (t : At) : Type 0 where
  pub unchanged : t.collection ≡ c
  pub pier : (out x : List ℕ) (a : Answer ℕ) → 64 ≤ length out → Reports t.phase t.collection out x a → Laid (refused_line 19) out x a
  pub pantry : (out x : List ℕ) (a : Answer ℕ) → Shows t.phase t.collection out x a → (a ≡ refused 19) × (x ≡ out)
  pub keeps : (saved y : List ℕ) (r : Answer Unit) → Resumes t.phase t.collection saved y r → (r ≡ refused 19) × (y ≡ t.collection)

pub record Programs : Type 0 where
  pub parts : Parts
  pub named : (b : Bool) (ps : List (List ℕ)) (line c id : List ℕ) (t : At) → 1025 ≤ length line → length c ≡ collection_size → Runs b ps line c t → document_of (flatten ps) ≡ done id
      → Collects id (scans_of (flatten ps)) t
  pub unnamed : (b : Bool) (ps : List (List ℕ)) (line c : List ℕ) (n : ℕ) (t : At) → 1025 ≤ length line → Runs b ps line c t → document_of (flatten ps) ≡ refused n → Waits c t
