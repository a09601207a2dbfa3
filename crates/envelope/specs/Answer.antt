-- What `write` answers, and what it leaves in the lent output.
use Rattle.std.specs.Prelude.{ℕ, List, Result}
use Rattle.wire.specs.Answer.{Answer, Kept}
use Rattle.wire.specs.Writing.{writing}
use Rattle.wire.specs.Reading.{told_at}
use Rattle.wire.specs.declared.RefusedAt.{RefusedAt}

-- the whole promise of the writer (R1.2): its answer, and every byte of its output
abbrev pub EnvelopeWritten : (v : Answer (List ℕ)) (out out' : List ℕ) (r : Result ℕ RefusedAt) → Type 0
EnvelopeWritten v out out' r = Kept (writing 0 out v) out out' (told_at r)
