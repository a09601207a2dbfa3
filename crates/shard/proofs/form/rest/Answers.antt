-- `shard::form::rest` meets its contract: a run of writes is one write. Assumes nothing.
use Rattle.shard.proofs.Runs.{content_room, quorum_room, rest_run}
use Rattle.shard.proofs.form.rest.Goals as goal

pub content-b-requires : goal.content-b-requires
content-b-requires c = search content_room

pub quorum-requires : goal.quorum-requires
quorum-requires c = search quorum_room

pub returns : goal.returns
returns c = search rest_run
