use mathlib.Core.Path.{◌≡◌, refl, sym}
use native.Mathlib.Numerals.{add-one}
use native.Mathlib.Omega.{arith}
use Rattle.field.specs.Field.{times}
use Rattle.field.specs.Element.{joined}
use Rattle.field.proofs.Polynomials.{power_none}
use Rattle.field.proofs.Turns.{turn_sum, turn_next}
use Rattle.field.proofs.times.Goals as goal

pub loop-k-init : goal.loop-k-init
unfolding times
loop-k-init c = (refl, sym (power_none _))

pub loop-k-preserved : goal.loop-k-preserved
loop-k-preserved c =
    let l = c.loop-k in
    let i = l.invariant in (
      turn_sum l.k c.args.w (joined c.args.a) l.b i.1 l.r c.pick.result _ i.0 c.pick.ensures c.sum-s.ensures,
      turn_next l.k c.args.w (joined c.args.a) l.b i.1 c.double-d.result c.double-d.ensures,
    )

pub returns : goal.returns
returns c =
    let l = c.loop-k in
    let a = c.args in
    let e : l.k ≡ a.n = omega arith in
    record { sum = cc; next = cc (add-one a.n) }
