-- One frame, read: section 6 of docs/RULES.md.
use Rattle.std.specs.Prelude.{ℕ, ◌+◌, ◌-◌, Bool, true, false, List, ltb, leb, eqb, length, take, drop, get_or}
use Rattle.wire.specs.Ascii.{ascii}
use Rattle.wire.specs.Answer.{choose, refused, then, demand, Got, got}
use Rattle.wire.specs.Sizes.{most_pages, most_data, id_size}
use Rattle.wire.specs.Number.{big_endian}
use Rattle.wire.specs.declared.Span.{Span}
use Rattle.wire.specs.Span.{part_at}
use Rattle.lend.specs.Same.{same}
use Rattle.varint.specs.Varint.{varint_at}
use Rattle.mark.specs.Mark.{mark_of}
use Rattle.crc.specs.Crc.{crc32}
pub use Rattle.frame.specs.declared.fields.Numbers.{Numbers}

-- what is read of a frame: its type byte, INDEX, TOTAL, and where its data stand in the input
pub record Frame : Type 0 where
  pub kind : ℕ
  pub index : ℕ
  pub total : ℕ
  pub at : Span

-- the id of a frame that is read stands at bytes 4 to 11 (R6.1)
abbrev pub id_of : List ℕ → List ℕ
id_of s = take id_size (drop 4 s)

abbrev pub data_of : List ℕ → Frame → List ℕ
data_of s f = part_at s f.at

-- ---- the fields, left to right: each is judged once it is whole (R6.4)

-- `41 50` in front of every frame (R6.1); the version stands behind it
abbrev pub magic : List ℕ
magic = ascii "AP"

-- the types: main, key and auth (R6.2)
unfoldable pub known : ℕ → Bool
known kind = choose (eqb kind 0x44) true (choose (eqb kind 0x4B) true (eqb kind 0x41))

-- the type byte; an unknown one is 6 (R6.4)
unfoldable pub kind_at : List ℕ → ℕ → Got ℕ
kind_at s at = choose (leb (length s) at) (refused 3) (choose (known (get_or s at 0)) (got (get_or s at 0) (at + 1)) (refused 6))

-- 8 bytes id (R6.1, R3.8)
unfoldable pub id_at : List ℕ → ℕ → Got Unit
id_at s at = choose (ltb (length s - at) id_size) (refused 3) (got tt (at + id_size))

-- all before the varints, in the order of R6.1: the type byte
unfoldable pub start_of : List ℕ → Got ℕ
start_of s =
    then (mark_of magic s) (λ (_, a).
    then (kind_at s a) (λ (kind, b).
    then (id_at s b) (λ (_, c). got kind c)))

-- varints INDEX, TOTAL, DATA_LEN: each is 7 where it is no varint (R6.4)
unfoldable pub numbers_at : List ℕ → ℕ → Got Numbers
numbers_at s at =
    then (varint_at s at) (λ (index, a).
    then (varint_at s a) (λ (total, b).
    then (varint_at s b) (λ (len, c). got (record { index = index; total = total; len = len }) c)))

-- the data and four bytes are all that is left of the input, else 3; the four are the checksum of
-- what stands in front of them, the highest byte first, else 10 (R6.5, R6.3)
unfoldable pub data_at : List ℕ → ℕ → ℕ → Got Unit
data_at s at len =
    demand (eqb (length s - at) (len + 4)) 3
    (demand (same (drop (at + len) s) (big_endian 4 (crc32 (take (at + len) s)))) 10
    (got tt (at + len + 4)))

-- ---- the frame as a whole

-- a frame is one of its TOTAL, counted from 0, and a key or auth frame is the only one: else 8
-- (R6.6)
unfoldable pub in_place : ℕ → ℕ → ℕ → Bool
in_place kind index total = choose (eqb total 0) false (choose (leb total index) false (choose (eqb kind 0x44) true (eqb total 1)))

-- unless 9 is due (R6.7): TOTAL above R3.1, or the length of the data above R3.2
unfoldable pub in_size : ℕ → ℕ → Bool
in_size total len = choose (ltb most_pages total) false (leb len most_data)

-- the type byte and the numbers are judged together, after the CRC: 8 (R6.6), then 9 (R6.7)
unfoldable pub judged : (kind : ℕ) (n : Numbers) (at next : ℕ) → Got Frame
judged kind n at next =
    demand (in_place kind n.index n.total) 8
    (demand (in_size n.total n.len) 9
    (got (record { kind = kind; index = n.index; total = n.total; at = record { start = at; len = n.len } }) next))

-- each field in its turn (R6.4), the checksum last (R6.5); then what the numbers say
unfoldable pub frame_of : List ℕ → Got Frame
frame_of s =
    then (start_of s) (λ (kind, a).
    then (numbers_at s a) (λ (n, b).
    then (data_at s b n.len) (λ (_, c). judged kind n b c)))
