use native.Mathlib.Omega.{arith}
use Rattle.recover.proofs.Turns.{laid_none, laid_on, laid_all}
use Rattle.recover.proofs.newton.lay.Goals as goal

pub loop-i-init : goal.loop-i-init
loop-i-init c = laid_none _ _

pub loop-i-preserved : goal.loop-i-preserved
loop-i-preserved c =
    laid_on _ _ _ (omega arith) _ (omega arith) c.loop-i.invariant _ c.payload-p.ensures _ c.index-x.ensures.0 c.block-y.result c.block-y.ensures c.left-d.result c.left-d.ensures

pub returns : goal.returns
returns c = (laid_all _ _ _ _ (omega arith) c.loop-i-test.false c.loop-i.invariant, c.loop-i.auto.curve)
