-- From the contracts of `typed` in the source to the definitions that the demands cite.
-- Assumes nothing.
use Rattle.wire.specs.Writing.{Written}
use Rattle.promises.specs.Calls.{Call}
use Rattle.typed.specs.Typed.{read_typed, write_typed, ReadLines}
use Rattle.typed.proofs.read as typed-read
use Rattle.typed.proofs.write as typed-write

pub typed_read_link : (k : Call typed-read.Kinds.ps typed-read.Kinds.r typed-read.Reads.Learnt)
    → ReadLines (read_typed k.args.0.now) k.args.1.0.now k.left.1.0 k.answer
typed_read_link k = k.kept

pub typed_write_link : (k : Call typed-write.Kinds.ps typed-write.Kinds.r typed-write.Reads.Learnt)
    → Written 0 (write_typed k.args.0.now) k.args.1.0.now k.left.1.0 k.answer
typed_write_link k = k.kept
