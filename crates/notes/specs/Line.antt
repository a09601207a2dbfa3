-- What one line is: a scan to a collection, or what stands where the document's id is due
-- (R15.9, R15.10).
use Rattle.std.specs.Prelude.{ℕ, List, [], ◌∷◌, eqb, ltb, leb, length}
use Rattle.wire.specs.Answer.{choose, Answer, done, refused_at, Change}
use Rattle.lend.specs.Same.{same}
use Rattle.digits.specs.Hex.{hex_value}
use Rattle.text.specs.Text.{base64, read_text}
use Rattle.collection.specs.Collection.{offering}
use Rattle.notes.specs.declared.Kind.{Kind}
use Rattle.notes.specs.declared.Kind.TheVariants as kind
use Rattle.notes.specs.declared.line.Flaw.{Flaw}
use Rattle.notes.specs.declared.line.Flaw.TheVariants as flaw

-- ---- the numbers of the notes

-- what a line came to
abbrev pub kind_number : Kind → ℕ
kind_number kind.Taken = 0
kind_number kind.Seen = 1
kind_number kind.Other = 2
kind_number kind.Unreadable = 3
kind_number kind.Long = 4

-- what is wrong with a first line
abbrev pub flaw_number : Flaw → ℕ
flaw_number flaw.Nothing = 0
flaw_number flaw.Length = 1
flaw_number flaw.Return = 2
flaw_number flaw.Blank = 3
flaw_number flaw.Capital = 4
flaw_number flaw.Beyond = 5
flaw_number flaw.Strange = 6

-- ---- a scan

-- what offer decides of its frame: 0 taken; 1 seen before, since the collection stays as it was; 2
-- of another document, 12 of R9.3; 3 unreadable
abbrev pub offered_kind : List ℕ → Change ℕ → ℕ
offered_kind c (done (after, kind)) = choose (same after c) 1 0
offered_kind c (refused_at e place) = choose (eqb e 12) 2 3

-- a text that does not read is unreadable too
abbrev pub read_kind : List ℕ → Answer (List ℕ) → ℕ
read_kind c (done raw) = offered_kind c (offering c raw)
read_kind c (refused_at e place) = 3

-- a line, to the collection c: 4 where it is too long (R15.2)
unfoldable pub line_kind : List ℕ → List ℕ → ℕ
line_kind c line = choose (leb (length line) 1024) (read_kind c (read_text base64 line)) 4

-- ---- the document's id

-- the first byte that is no hex digit; the digit 0 where there is none
unfoldable pub strange : List ℕ → ℕ
strange [] = 0x30
strange (b ∷ bs) = choose (ltb (hex_value b) 16) (strange bs) b

-- what such a byte is: 2 a carriage return, 3 a blank, 4 a capital digit, 5 beyond ASCII, as a byte
-- order mark is, 6 another
unfoldable pub byte_fault : ℕ → ℕ
byte_fault b =
    choose (eqb b 13) 2
    (choose (ltb b 9) 6
    (choose (leb b 32) 3
    (choose (ltb b 0x41) 6
    (choose (leb b 0x46) 4
    (choose (ltb b 0x80) 6 5)))))

-- what is wrong with a first line: 0 nothing, 1 it has digits alone and not 16 of them (R15.1)
unfoldable pub id_fault : List ℕ → ℕ
id_fault line = choose (ltb (hex_value (strange line)) 16) (choose (eqb (length line) 16) 0 1) (byte_fault (strange line))
