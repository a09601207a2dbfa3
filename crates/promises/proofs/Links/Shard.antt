-- From the contracts of `shard` in the source to the definitions that the demands cite.
-- Assumes nothing.
use mathlib.Core.Path.{◌≡◌}
use Rattle.wire.specs.Writing.{Written}
use Rattle.promises.specs.Calls.{Call}
use Rattle.shard.specs.Shard.{shard_at, shard_verdict}
use Rattle.shard.specs.Answer.{shard_told}
use Rattle.shard.proofs.read as shard-read
use Rattle.shard.proofs.write as shard-write

pub shard_read_link : (k : Call shard-read.Kinds.ps shard-read.Kinds.r shard-read.Reads.Learnt) → shard_told k.answer ≡ shard_at k.args.0.now
shard_read_link k = k.kept

pub shard_write_link : (k : Call shard-write.Kinds.ps shard-write.Kinds.r shard-write.Reads.Learnt)
    → Written 0
    (shard_verdict k.args.0.now k.args.1.0.now k.args.1.1.0.now k.args.1.1.1.0.now k.args.1.1.1.1.0.now k.args.1.1.1.1.1.0
    k.args.1.1.1.1.1.1.0) k.args.1.1.1.1.1.1.1.0.now k.left.1.1.1.1.1.1.1.0 k.answer
shard_write_link k = k.kept
