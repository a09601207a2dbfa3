use Prim.Native.Nat.{◌+◌}
use mathlib.Core.Path.{◌∙◌}
use native.Mathlib.Omega.{arith}
use Rattle.typed.proofs.Weighing.{weigh_none, weigh_next, weigh_end, value_most, term_most}
use Rattle.typed.proofs.check.weigh.Goals as goal

pub loop-i-init : goal.loop-i-init
loop-i-init c = (omega arith, weigh_none _, omega arith)

pub overflow_mul-sum : goal.overflow_mul-sum
overflow_mul-sum c =
    let l = c.loop-i in
    record { fits = omega (arith, term_most (l.i + 1) c.from.result (omega arith) (value_most _ _ (c.from.ensures ∙ c.zbase32_value.ensures))) }

pub overflow_add-sum-in-loop-i : goal.overflow_add-sum-in-loop-i
overflow_add-sum-in-loop-i c =
    let l = c.loop-i in
    record { fits = omega (arith, l.invariant.2, term_most (l.i + 1) c.from.result (omega arith) (value_most _ _ (c.from.ensures ∙ c.zbase32_value.ensures))) }

pub loop-i-preserved : goal.loop-i-preserved
loop-i-preserved c =
    let v = c.from.result in
    let e = c.from.ensures ∙ c.zbase32_value.ensures in
    let a = c.args in
    (omega arith, weigh_next a.contents.now c.loop-i.i c.loop-i.sum v (omega arith) c.loop-i.invariant.1 e, omega (arith, c.loop-i.invariant.2, term_most (c.loop-i.i + 1) v (omega arith) (value_most _ _ e)))

pub returns : goal.returns
returns c =
    let l = c.loop-i in
    (weigh_end _ l.i l.sum (omega arith) l.invariant.1, omega (arith, l.invariant.2, l.invariant.0))
