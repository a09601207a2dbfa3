-- `shard::read` meets its contract: the claim, and what is behind it.
-- Assumes nothing.
use Rattle.shard.specs.Shard.{shard_at}
use Rattle.wire.proofs.Answers.{reads}
use Rattle.shard.proofs.Answers.{handed_shard}
use Rattle.shard.proofs.read.Goals as goal

pub returns-in_err-claim : goal.returns-in_err-claim
unfolding shard_at
returns-in_err-claim c = search (reads, handed_shard _ _ c.from_residual.ensures, c.in_err-claim.ensures) depth 40

pub returns : goal.returns
unfolding shard_at
returns c = search (reads, c.in_ok-claim.ensures) depth 40
