-- `take::vacate` meets its contract: an absent page is left as it is. Assumes nothing.
use Rattle.block.specs.declared.PageState.TheVariants as state
use Rattle.block.proofs.States.{ne_no}
use Rattle.collection.proofs.Blocks.{absent_stays}
use Rattle.collection.proofs.take.vacate.Goals as goal

pub returns-else-ne : goal.returns-else-ne
returns-else-ne c = absent_stays _ _ _ _ c.requires (ne_no _ state.Absent _ _ c.state.ensures c.ne.ensures c.if-ne.false)
