-- `merge::slot` meets its contract, for each state of the other's block. Assumes nothing.
use Rattle.block.specs.declared.PageState.TheVariants as state
use Rattle.block.proofs.States.{ne_no}
use Rattle.collection.proofs.Blocks.{data_short, joined_absent, joined_held, joined_disputed, joined_stays}
use Rattle.collection.proofs.merge.slot.Goals as goal

pub slot-requires-clause-bytes_len_bound : goal.slot-requires-clause-bytes_len_bound
slot-requires-clause-bytes_len_bound c = search data_short

pub returns-in-Absent : goal.returns-in-Absent
returns-in-Absent c = search (joined_absent, c.in-Absent.ensures)

pub returns-in-Held : goal.returns-in-Held
returns-in-Held c = search (joined_held, c.in-Held.ensures)

pub returns-then-ne : goal.returns-then-ne
returns-then-ne c = search (joined_disputed, c.in-Disputed.ensures)

pub returns-else-ne : goal.returns-else-ne
returns-else-ne c =
    joined_stays _ _ _ _ c.requires _ c.in-Disputed.ensures (ne_no _ state.Disputed _ _ c.state-in-Disputed.ensures c.ne.ensures c.if-ne.false)
