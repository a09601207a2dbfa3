use Prim.Native.Nat.{◌<◌}
use mathlib.Core.Path.{refl, ◌∙◌}
use native.Mathlib.Omega.{arith}
use lib.ListN.{length, length-set}
use Rattle.recover.proofs.Judging.{fresh_start, fresh_on, fresh_stop, fresh_end}
use Rattle.recover.proofs.judge.all_distinct.Goals as goal

pub loop-i-init : goal.loop-i-init
loop-i-init c = (refl, fresh_start 256 _)

pub returns-then-seen-x : goal.returns-then-seen-x
returns-then-seen-x c =
    fresh_stop c.loop-i.seen c.args.slips.now c.loop-i.i (omega arith) _ c.payload.ensures c.from-x.result (c.from-x.ensures ∙ c.index.ensures.0) _ c.loop-i.invariant.1 c.if-seen-x.true

pub loop-i-preserved : goal.loop-i-preserved
loop-i-preserved c =
    let x : c.from-x.result < length c.loop-i.seen = omega arith in (
      length-set c.loop-i.seen _ _ ∙ c.loop-i.invariant.0,
      fresh_on c.loop-i.seen c.args.slips.now c.loop-i.i (omega arith) _ c.payload.ensures c.from-x.result (c.from-x.ensures ∙ c.index.ensures.0) _ c.loop-i.invariant.1 x c.if-seen-x.false,
    )

pub returns : goal.returns
returns c = fresh_end c.loop-i.seen c.args.slips.now c.loop-i.i (omega arith) _ c.loop-i.invariant.1
