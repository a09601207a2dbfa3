-- `shard::fields::quorum` meets its contract: three fields, one after the other, and the rules
-- over them.
-- Assumes nothing.
use Rattle.shard.specs.Shard.{quorum_at}
use Rattle.wire.proofs.Answers.{reads, handed}
use Rattle.shard.proofs.fields.quorum.Goals as goal

pub returns-in_err-threshold : goal.returns-in_err-threshold
unfolding quorum_at
returns-in_err-threshold c = search (reads, handed _ _ c.from_residual.ensures, c.in_err-threshold.ensures) depth 40

pub returns-in_err-count : goal.returns-in_err-count
unfolding quorum_at
returns-in_err-count c = search (reads, handed _ _ c.from_residual-in_err-count.ensures, c.in_ok-threshold.ensures, c.in_err-count.ensures) depth 40

pub returns-then-count-threshold : goal.returns-then-count-threshold
unfolding quorum_at
returns-then-count-threshold c = search (reads, c.in_ok-threshold.ensures, c.in_ok-count.ensures) depth 40

pub returns-in_err-index : goal.returns-in_err-index
unfolding quorum_at
returns-in_err-index c = search (reads, handed _ _ c.from_residual-in_err-index.ensures, c.in_ok-threshold.ensures, c.in_ok-count.ensures, c.in_err-index.ensures) depth 40

pub returns-then-count-index : goal.returns-then-count-index
unfolding quorum_at
returns-then-count-index c = search (reads, c.in_ok-threshold.ensures, c.in_ok-count.ensures, c.in_ok-index.ensures) depth 40

pub returns : goal.returns
unfolding quorum_at
returns c = search (reads, c.in_ok-threshold.ensures, c.in_ok-count.ensures, c.in_ok-index.ensures) depth 40
