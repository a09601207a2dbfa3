-- A slip, read: its text, the frame that this is, and the share in it (R15.18, R15.19).
use Rattle.std.specs.Prelude.{ℕ, ◌≡◌, Bool, true, false, Result, Ok, Err, List, leb, eqb, length}
use Rattle.wire.specs.Answer.{choose, Answer, done, refused_at, then, demand, Got}
use Rattle.wire.specs.Over.{over}
use Rattle.wire.specs.Refusal.{number}
use Rattle.wire.specs.Span.{part_at}
use Rattle.wire.specs.declared.Span.{Span}
use Rattle.text.specs.Text.{base64, read_text}
use Rattle.typed.specs.Typed.{read_typed}
use Rattle.frame.specs.Frame.{Frame, frame_of}
use Rattle.frame.specs.Kind.{type_byte}
use Rattle.shard.specs.Shard.{Shard, shard_at}
use Rattle.shard.specs.declared.Quorum.{Quorum}
use Rattle.slips.specs.declared.Share.{Share}
use Rattle.slips.specs.declared.NoSlip.{NoSlip}
use Rattle.slips.specs.declared.NoSlip.TheVariants as N

-- what `read` answers: a slip, by how long its frame is, where in it the payload stands and which
-- share it is; or what the text is instead, by numbers
pub data Read : Type 0 where
  slip_read : ℕ → Span → Quorum → Read
  no_text : ℕ → ℕ → Read
  no_frame : ℕ → Read
  other_kind : ℕ → Read
  no_shard : ℕ → Read
  short : Read

abbrev pub read_told : Result Share NoSlip → Read
read_told (Ok r) = slip_read r.len r.payload r.quorum
read_told (Err (N.Text e)) = no_text (number e.why) e.place
read_told (Err (N.Frame e)) = no_frame (number e)
read_told (Err (N.Other k)) = other_kind (type_byte k)
read_told (Err (N.Shard e)) = no_shard (number e)
read_told (Err N.Short) = short

-- what a text stands for: typed lines, or a scan in base64
unfoldable pub text_in : Bool → List ℕ → Answer (List ℕ)
text_in true cs = read_typed cs
text_in false cs = read_text base64 cs

-- no good frame has more than 500 bytes: 11, the number of a room that is too short
unfoldable pub bytes_in : Bool → List ℕ → Answer (List ℕ)
bytes_in typed cs = then (text_in typed cs) (λ bs. demand (leb (length bs) 500) 11 (done bs))

-- what is seen in a text: a slip, with its frame, where in it the payload stands and which share it
-- is; or what else
pub data Seen : Type 0 where
  slip : List ℕ → Span → Quorum → Seen
  other : Read → Seen

-- the payload has to be a shard
abbrev pub shard_seen : List ℕ → Span → Got Shard → Seen
shard_seen bs at (done (s, next)) = slip bs at s.quorum
shard_seen bs at (refused_at e place) = other (no_shard e)

-- the frame has to be a key frame
abbrev pub frame_seen : List ℕ → Got Frame → Seen
frame_seen bs (done (f, next)) =
    choose (eqb f.kind 0x4B) (shard_seen bs f.at (shard_at (part_at bs f.at))) (other (other_kind f.kind))
frame_seen bs (refused_at e place) = other (no_frame e)

abbrev pub text_seen : Answer (List ℕ) → Seen
text_seen (done bs) = frame_seen bs (frame_of bs)
text_seen (refused_at e line) = other (no_text e line)

unfoldable pub slip_seen : Bool → List ℕ → Seen
slip_seen typed cs = text_seen (bytes_in typed cs)

-- the answer: of a slip the length of its frame, where there is room for it
abbrev pub answered : List ℕ → Seen → Read
answered out (slip bs at q) = choose (leb (length bs) (length out)) (slip_read (length bs) at q) short
answered out (other r) = r

-- the frame goes to the front of the output, where it fits
abbrev pub left : List ℕ → Seen → List ℕ
left out (slip bs at q) = over 0 bs out
left out (other r) = out

-- the whole promise: the answer, and every byte of the output (R1.2)
pub record Told (seen : Seen) (out out' : List ℕ) (r : Result Share NoSlip) : Type 0 where
  pub answer : read_told r ≡ answered out seen
  pub bytes : out' ≡ left out seen
