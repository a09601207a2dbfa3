use mathlib.Core.List.{[]}
use Rattle.recover.proofs.Turns.{value_start, value_on}
use Rattle.recover.proofs.newton.value.Goals as goal

pub loop-k-init : goal.loop-k-init
loop-k-init c = value_start c.args.curve.now c.args.x

pub loop-k-preserved : goal.loop-k-preserved
loop-k-preserved c =
    value_on c.args.curve.now c.args.x (record { x = 0; d = [] }) c.loop-k.k c.loop-k-test.true c.loop-k.auto.k c.loop-k.made c.scale-p.result c.sum-s.result c.loop-k.invariant c.scale-p.ensures c.sum-s.ensures
