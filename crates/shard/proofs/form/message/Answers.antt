-- `shard::form::message` meets its contract: a run of writes is one write. Assumes nothing.
use Rattle.shard.proofs.Runs.{signed_room, signed_run}
use Rattle.shard.proofs.form.message.Goals as goal

pub rest-requires : goal.rest-requires
rest-requires c = search signed_room

pub returns : goal.returns
returns c = search signed_run
