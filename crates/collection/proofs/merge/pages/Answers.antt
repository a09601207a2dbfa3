use Rattle.collection.proofs.Loops.{join_start, join_block, join_on, join_end}
use Rattle.collection.proofs.merge.pages.Goals as goal

pub loop-k-init : goal.loop-k-init
loop-k-init c = search join_start

pub slot-requires : goal.slot-requires
slot-requires c = search join_block

pub loop-k-preserved : goal.loop-k-preserved
loop-k-preserved c = search join_on

pub returns : goal.returns
returns c = search join_end
