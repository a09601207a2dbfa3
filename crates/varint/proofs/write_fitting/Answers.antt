use Rattle.varint.proofs.Stores.{store_none, store_more, more_room, last_room, last_stored}
use Rattle.varint.proofs.write_fitting.Goals as goal

pub loop-m-init : goal.loop-m-init
loop-m-init c = search store_none

pub bounds-out-i : goal.bounds-out-i
bounds-out-i c = search more_room

pub loop-m-preserved : goal.loop-m-preserved
loop-m-preserved c = search store_more

pub bounds-out-i-2 : goal.bounds-out-i-2
bounds-out-i-2 c = search last_room

pub returns : goal.returns
returns c = search last_stored
