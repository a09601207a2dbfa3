-- `shard::judge::is_known` meets its contract: either comparison. Assumes nothing.
use Rattle.wire.proofs.Branch.{tests}
use Rattle.shard.specs.Shard.{known}
use Rattle.shard.proofs.judge.is_known.Goals as goal

pub returns-then-equal : goal.returns-then-equal
unfolding known
returns-then-equal c = rw (c.if-equal.true, ← c.equal.ensures, c.if-equal.true)

pub returns-else-equal : goal.returns-else-equal
unfolding known
returns-else-equal c = search tests
