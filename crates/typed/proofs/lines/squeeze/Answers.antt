use native.Mathlib.Omega.{arith}
use Rattle.typed.proofs.Judging.{squeezed_none, squeezed_few, squeezed_next, squeezed_all}
use Rattle.typed.proofs.lines.squeeze.Goals as goal

pub loop-c-init : goal.loop-c-init
loop-c-init c = (omega arith, squeezed_none _ _)

pub keep-n-requires : goal.keep-n-requires
keep-n-requires c = let l = c.loop-c in omega (arith, squeezed_few _ _ _ _ _ l.invariant.1 (omega arith))

pub loop-c-preserved : goal.loop-c-preserved
loop-c-preserved c =
    let a = c.args in
    let k = c.keep-n in
    (omega arith, squeezed_next a.text.now a.kept.now c.loop-c.kept c.loop-c.n c.loop-c.c-index c.loop-c.invariant.1 (omega arith) _ _ k.ensures.0 k.ensures.1)

pub shape_of-kept : goal.shape_of-kept
shape_of-kept c = c.loop-c.invariant.1.same

pub returns : goal.returns
returns c = squeezed_all _ _ _ _ _ c.loop-c.invariant.1 (omega arith)
