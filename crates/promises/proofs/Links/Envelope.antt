-- From the contracts of `envelope` in the source to the definitions that the demands cite.
-- Assumes nothing.
use mathlib.Core.Path.{◌≡◌}
use Rattle.promises.specs.Calls.{Call}
use Rattle.envelope.specs.Envelope.{envelope_at, verdict}
use Rattle.wire.specs.Reading.{told_at}
use Rattle.envelope.specs.Answer.{EnvelopeWritten}
use Rattle.envelope.proofs.read as envelope-read
use Rattle.envelope.proofs.write as envelope-write

pub envelope_read_link : (k : Call envelope-read.Kinds.ps envelope-read.Kinds.r envelope-read.Reads.Learnt) → told_at k.answer ≡ envelope_at k.args.0.now
envelope_read_link k = k.kept

pub envelope_write_link : (k : Call envelope-write.Kinds.ps envelope-write.Kinds.r envelope-write.Reads.Learnt)
    → EnvelopeWritten (verdict k.args.0.now k.args.1.0.now) k.args.1.1.0.now k.left.1.1.0 k.answer
envelope_write_link k = k.kept
