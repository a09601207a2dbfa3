use Rattle.book.proofs.Turns.{counted_none, counted_more, counted_on, counted_end}
use Rattle.book.proofs.tally.count.Goals as goal
use Rattle.book.proofs.tally.count.Goals.{then-from-state, else-from-state}

pub loop-i-init : goal.loop-i-init
loop-i-init c = search counted_none

pub loop-i-preserved : goal.loop-i-preserved
loop-i-preserved c =
    elim c.if-from-state.branch [ then-from-state w ↦ rw w.n-is (search counted_more) | else-from-state w ↦ rw w.n-is (search counted_on) ]

pub returns : goal.returns
returns c = search counted_end
