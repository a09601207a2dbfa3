-- The one number that each function for the phone answers: section 16 of docs/RULES.md.
-- include/stiltbasket.h reads it apart.
use Rattle.std.specs.Prelude.{ℕ, ◌+◌, ◌*◌, ◌/◌, ◌%◌, ◌^◌, List, eqb, leb, length}
use Rattle.wire.specs.Answer.{choose, Answer, done, refused_at, then, demand, Change, leaves}
use Rattle.wire.specs.Over.{over}
use Rattle.wire.specs.Sizes.{id_size}
use Rattle.frame.specs.Frame.{Frame, id_of, frame_of}
use Rattle.status.specs.declared.standing.Numbers.{Numbers}

-- the lowest byte is the number of the refusal, or 0; the one above it a place, or how the page of
-- an offer stands; all above them a count (R16.2)
abbrev pub packed : ℕ → ℕ → ℕ → ℕ
packed number place count = number + 256 * place + 2 ^ 16 * count

-- of an answer: what is made of its value, or the refusal's number and place
abbrev pub packing : {A : Type 0} → (A → ℕ) → Answer A → ℕ
packing f (done a) = f a
packing f (refused_at e place) = packed e place 0

-- `stilt_open` and `stilt_join`, which are open and join (R16.1): the number alone (R16.2)
abbrev pub packed_answer : Answer Unit → ℕ
packed_answer a = packing (λ u. packed 0 0 0) a

-- `stilt_offer`, which is offer (R16.1): how the page stands takes the place of a place (R16.2)
abbrev pub packed_kind : Answer ℕ → ℕ
packed_kind a = packing (λ kind. packed 0 kind 0) a

-- `stilt_finish`, which is finish (R16.1): the number of bytes written, or a place (R16.2)
abbrev pub packed_finish : Answer ℕ → ℕ
packed_finish a = packing (λ n. packed 0 0 n) a

-- `stilt_status`: 3 in the place where the totals disagree (R9.5); the total, and how many pages
-- are held, missing and disputed, are a byte each, the lowest first (R16.3)
abbrev pub packed_numbers : Answer Numbers → ℕ
packed_numbers a = packing (λ n. packed 0 n.stands (n.total + 2 ^ 8 * n.held + 2 ^ 16 * n.missing + 2 ^ 24 * n.disputed)) a

-- what `stilt_frame` decides: a frame that is read, whose id goes to the front of what was lent; 11
-- where that has no room for it (R16.4)
unfoldable pub seeing : List ℕ → List ℕ → Change Frame
seeing s out = then (frame_of s) (λ (f, next). demand (leb id_size (length out)) 11 (leaves (over 0 (id_of s) out) f))

-- `stilt_frame`: its index is the place, its total and its type are a byte each (R16.4)
abbrev pub packed_frame : Answer Frame → ℕ
packed_frame a = packing (λ f. packed 0 f.index (f.total + 2 ^ 8 * f.kind)) a

-- `stilt_base64`, which reads base64: the number of bytes written, of which 48 bits have room; no
-- memory has more (R16.5)
abbrev pub packed_text : Answer ℕ → ℕ
packed_text a = packing (λ n. packed 0 0 (n % 2 ^ 48)) a

-- `stilt_typed`, which reads typed lines: the number of bytes written; the place is the number of
-- the line that was mistyped (R16.6)
abbrev pub packed_typed : Answer ℕ → ℕ
packed_typed a = packing (λ n. packed 0 0 n) a

-- ---- the same, read apart: stilt_number, stilt_place and stilt_count of the header

abbrev pub number_in : ℕ → ℕ
number_in n = n % 256

abbrev pub place_in : ℕ → ℕ
place_in n = n / 256 % 256

abbrev pub count_in : ℕ → ℕ
count_in n = n / 2 ^ 16

-- byte k of the count, the lowest being byte 0: stilt_total, stilt_type and the counts of
-- stilt_status
abbrev pub byte_in : ℕ → ℕ → ℕ
byte_in k n = count_in n / 2 ^ (8 * k) % 256

-- what a C program makes of finish's answer: with 0 it looks at the count
abbrev pub finish_in : ℕ → Answer ℕ
finish_in n = choose (eqb (number_in n) 0) (done (count_in n)) (refused_at (number_in n) (place_in n))
