-- `shard::body` meets its contract: the parts behind the claim, and the end.
-- Assumes nothing.
use Rattle.shard.specs.Shard.{body_at}
use Rattle.wire.proofs.Answers.{reads}
use Rattle.shard.proofs.Answers.{handed_shard}
use Rattle.shard.proofs.body.Goals as goal

pub returns-in_err-content : goal.returns-in_err-content
unfolding body_at
returns-in_err-content c = search (reads, handed_shard _ _ c.from_residual.ensures, c.in_err-content.ensures) depth 40

pub returns-in_err-b : goal.returns-in_err-b
unfolding body_at
returns-in_err-b c = search (reads, handed_shard _ _ c.from_residual-in_err-b.ensures, c.in_ok-content.ensures, c.in_err-b.ensures) depth 40

pub returns-in_err-quorum : goal.returns-in_err-quorum
unfolding body_at
returns-in_err-quorum c = search (reads, handed_shard _ _ c.from_residual-in_err-quorum.ensures, c.in_ok-content.ensures, c.in_ok-b.ensures, c.in_err-quorum.ensures) depth 40

pub returns-then-next-s : goal.returns-then-next-s
unfolding body_at
returns-then-next-s c = search (reads, c.in_ok-content.ensures, c.in_ok-b.ensures, c.in_ok-quorum.ensures) depth 40

pub returns : goal.returns
unfolding body_at
returns c = search (reads, c.in_ok-content.ensures, c.in_ok-b.ensures, c.in_ok-quorum.ensures) depth 40
