use mathlib.Core.List.{[]}
use Rattle.recover.proofs.Turns.{left_on, left_end}
use Rattle.recover.proofs.newton.left.Goals as goal

pub loop-p-preserved : goal.loop-p-preserved
loop-p-preserved c =
    left_on c.args.before.now c.args.x (record { x = 0; d = [] }) c.loop-p.p-index c.loop-p-test.true c.loop-p.rest c.sum-s.result c.over-q.result c.sum-s.ensures c.over-q.ensures c.loop-p.invariant

pub returns : goal.returns
returns c = left_end c.args.before.now c.args.x c.loop-p.p-index c.loop-p-test.false c.loop-p.rest c.loop-p.invariant
