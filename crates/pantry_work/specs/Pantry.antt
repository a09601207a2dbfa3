-- A run of the pantry over its whole input: what it takes up, and what it keeps. The steps of a run
-- are those of `scan` and `pantry_work`; that the program takes them in this order is tested, since
-- its reading and writing have no contract.
use Rattle.std.specs.Prelude.{List, ℕ}
use Rattle.wire.specs.Answer.{Change, bytes_after}
use Rattle.scan.specs.Input.{session}
use Rattle.pantry_work.specs.Steps.{resuming}

-- line and c are the buffers that its session is lent, and saved is what its file holds, which is
-- taken up at the end of the input (R15.7)
abbrev pub taken_up : (line c input saved : List ℕ) → Change Unit
taken_up line c input saved = resuming (session line c input).phase (session line c input).collection saved

-- and the file holds this: after a refusal, what it held before (R15.7)
abbrev pub file_after : (line c input saved : List ℕ) → List ℕ
file_after line c input saved = bytes_after saved (taken_up line c input saved)
