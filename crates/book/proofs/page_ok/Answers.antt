-- `book::page_ok` meets its contract: from the total on a page must be absent, and any block well
-- formed. Assumes nothing.
use Rattle.block.specs.declared.PageState.TheVariants as state
use Rattle.block.proofs.States.{ne_yes, ne_no}
use Rattle.book.proofs.Judging.{at_past, at_absent, at_within}
use Rattle.book.proofs.page_ok.Goals as goal
use Rattle.book.proofs.page_ok.Goals.{then-total-k+else-ne, else-total-k}

pub returns-then-ne : goal.returns-then-ne
returns-then-ne c = at_past _ _ _ _ c.place-at.ensures c.total.ensures c.if-total-k.true (ne_yes _ state.Absent _ _ c.state.ensures c.ne.ensures c.if-ne.true)

pub returns : goal.returns
returns c =
    elim c.if-total-k.branch [
      | then-total-k+else-ne w ↦ at_absent _ _ _ _ c.place-at.ensures c.total.ensures _ _ c.id.ensures c.well_formed-2.ensures w.if-total-k.true (ne_no _ state.Absent _ _ w.state.ensures w.ne.ensures w.if-ne.false)
      | else-total-k w ↦ search at_within
    ]
