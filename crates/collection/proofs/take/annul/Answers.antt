use Rattle.collection.proofs.Loops.{clear_start, clear_block, clear_on, clear_end}
use Rattle.collection.proofs.take.annul.Goals as goal

pub loop-k-init : goal.loop-k-init
loop-k-init c = search clear_start

pub vacate-requires : goal.vacate-requires
vacate-requires c = search clear_block

pub loop-k-preserved : goal.loop-k-preserved
loop-k-preserved c = search clear_on

pub returns : goal.returns
returns c = search clear_end
