use native.Mathlib.Omega.{arith}
use Rattle.recover.proofs.Judging.{like_on, like_stop, like_end}
use Rattle.recover.proofs.judge.all_alike.Goals as goal

pub returns-then-not-agree : goal.returns-then-not-agree
returns-then-not-agree c =
    like_stop c.args.slips.now c.loop-i.i (omega arith) _ _ c.payload-first.ensures c.payload.ensures _ c.agree.ensures c.loop-i.invariant c.if-not-agree.true

pub loop-i-preserved : goal.loop-i-preserved
loop-i-preserved c =
    like_on c.args.slips.now c.loop-i.i (omega arith) _ _ c.payload-first.ensures c.payload.ensures _ c.agree.ensures c.loop-i.invariant c.if-not-agree.false

pub returns : goal.returns
returns c = like_end c.args.slips.now c.loop-i.i (omega arith) c.loop-i.invariant
