-- `shard::form::quorum` meets its contract: a run of writes is one write. Assumes nothing.
use Rattle.shard.proofs.Runs.{quorum_run}
use Rattle.shard.proofs.form.quorum.Goals as goal

pub returns : goal.returns
returns c = search quorum_run
