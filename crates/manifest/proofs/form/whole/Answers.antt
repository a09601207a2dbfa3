-- `manifest::form::whole` meets its contract: three runs of writes are one. Assumes nothing.
use Rattle.manifest.proofs.Laying.{opening_room, list_room, closing_room, whole_run}
use Rattle.manifest.proofs.form.whole.Goals as goal

pub opening-a-requires : goal.opening-a-requires
opening-a-requires c = search opening_room

pub list-b-requires : goal.list-b-requires
list-b-requires c = search list_room

pub closing-requires : goal.closing-requires
closing-requires c = search closing_room

pub returns : goal.returns
returns c = search whole_run
