-- `shard::form::payload` meets its contract: a run of writes is one write. Assumes nothing.
use Rattle.shard.proofs.Runs.{shard_room, shard_run}
use Rattle.shard.proofs.form.payload.Goals as goal

pub rest-requires : goal.rest-requires
rest-requires c = search shard_room

pub returns : goal.returns
returns c = search shard_run
