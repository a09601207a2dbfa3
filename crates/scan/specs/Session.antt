-- What `pier` does with the bytes that it reads, and `pantry` up to the end of its input: section
-- 15 of docs/RULES.md.
use Rattle.std.specs.Prelude.{ℕ, ◌+◌, List, [], ◌∷◌, eqb, ltb, leb, length, take}
use Rattle.wire.specs.Answer.{choose, Answer, done, refused_at, bytes_after}
use Rattle.wire.specs.Over.{over}
use Rattle.digits.specs.Decimal.{refused_line}
use Rattle.text.specs.Text.{base64, read_text}
use Rattle.collection.specs.Collection.{opening, offering}
use Rattle.status.specs.Line.{status_line}
use Rattle.scan.specs.Id.{id_verdict}
use Rattle.scan.specs.declared.session.Session.{Session}

-- a scan that is no base64 text is passed over (R15.2); what offer refuses changes nothing (R1.2)
abbrev pub offered : List ℕ → Answer (List ℕ) → List ℕ
offered c (done raw) = bytes_after c (offering c raw)
offered c (refused_at e place) = c

-- a scan: a line behind the first. Nothing comes of one that is longer than 1,024 bytes, no base64,
-- or refused (R15.2)
unfoldable pub scanned : List ℕ → List ℕ → List ℕ
scanned c line = choose (leb (length line) 1024) (offered c (read_text base64 line)) c

-- ---- a session, byte by byte

-- where it is: the phase (0 before the first line has ended, 1 collecting, 2 refused) and the bytes
-- of the line that has not ended, the first `len` of the line buffer. Of a line that is too long
-- 1,025 bytes are counted, whatever comes (R15.2)
pub record At : Type 0 where
  pub phase : ℕ
  pub len : ℕ
  pub line : List ℕ
  pub collection : List ℕ

-- the line so far
unfoldable pub line_of : At → List ℕ
line_of s = choose (leb s.len (length s.line)) (take s.len s.line) []

-- the first line opens the collection, or the session is refused (R15.1)
abbrev pub started : At → Answer (List ℕ) → At
started s (done id) = record { phase = 1; len = 0; line = s.line; collection = bytes_after s.collection (opening id s.collection) }
started s (refused_at e place) = record { phase = 2; len = 0; line = s.line; collection = s.collection }

-- a line has ended
unfoldable pub ended : At → At
ended s =
    choose (eqb s.phase 0) (started s (id_verdict (line_of s)))
    (choose (eqb s.phase 1) (record { phase = 1; len = 0; line = s.line; collection = scanned s.collection (line_of s) })
    (record { phase = s.phase; len = 0; line = s.line; collection = s.collection }))

-- one more byte of the line
unfoldable pub longer : At → ℕ → At
longer s b =
    record {
      phase = s.phase;
      len = choose (ltb s.len 1025) (s.len + 1) s.len;
      line = over s.len (b ∷ []) s.line;
      collection = s.collection;
    }

-- a line ends at a line feed (R15.3)
unfoldable pub next : At → ℕ → At
next s b = choose (eqb b 10) (ended s) (longer s b)

unfoldable pub fed : At → List ℕ → At
fed s [] = s
fed s (b ∷ bs) = fed (next s b) bs

-- the last line may lack its line feed (R15.3)
unfoldable pub closed : At → At
closed s = choose (eqb s.len 0) s (ended s)

-- the line at the end: `refused 19` where the first line is no id, or there is none (R15.1, R15.3)
unfoldable pub reported : ℕ → List ℕ → List ℕ
reported phase c = choose (eqb phase 1) (status_line c) (refused_line 19)

-- ---- the promise of a call

abbrev pub at : Session → List ℕ → List ℕ → At
at r line c = record { phase = r.phase; len = r.len; line = line; collection = c }
