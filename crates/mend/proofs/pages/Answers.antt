use native.Mathlib.Omega.{arith}
use Rattle.mend.proofs.Mending.{one_most, mending_none, mending_on, mending_end}
use Rattle.mend.proofs.pages.Goals as goal

pub loop-k-init : goal.loop-k-init
loop-k-init c = search mending_none

pub overflow_add-count : goal.overflow_add-count
overflow_add-count c =
    let turn = c.loop-k in
    omega (arith, one_most turn.c turn.k c.page-count.result c.page-count.ensures.0)

pub loop-k-preserved : goal.loop-k-preserved
loop-k-preserved c =
    let made = c.page-count in
    mending_on _ c.requires _ _ _ c.loop-k.invariant (omega arith) _ _ _ c.id_copy-id.ensures made.ensures.0 made.ensures.1

pub returns : goal.returns
returns c = mending_end _ c.requires _ _ _ c.loop-k-test.false c.loop-k.invariant
