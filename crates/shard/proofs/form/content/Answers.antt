-- `shard::form::content` meets its contract: a run of writes is one write. Assumes nothing.
use Rattle.shard.proofs.Runs.{content_run}
use Rattle.shard.proofs.form.content.Goals as goal

pub returns : goal.returns
returns c = search content_run
