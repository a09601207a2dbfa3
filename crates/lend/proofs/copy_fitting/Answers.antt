use Prim.Native.Nat.{ℕ, ◌+◌}
use native.Mathlib.Omega.{arith}
use mathlib.Core.Path.{refl, sym, ap, ◌∙◌}
use mathlib.Core.List.{List}
use lib.ListN.{set, get_or, length-set}
use lib.Seq.{take_all}
use Rattle.wire.specs.Over.{over}
use Rattle.wire.proofs.Overs.{over_none, over_next}
use Rattle.lend.proofs.copy_fitting.Goals as goal

pub loop-i-init : goal.loop-i-init
loop-i-init c = (omega arith, refl, sym (over_none _ _))

pub loop-i-preserved : goal.loop-i-preserved
loop-i-preserved c =
    let l = c.loop-i in
    let a = c.args in (
      omega arith,
      simp length-set l.invariant.1,
      ap (λ (r : List ℕ). set r (a.at + l.i) (get_or a.src.now l.i 0)) l.invariant.2
          ∙ over_next a.at a.src.now a.out.now l.i (omega arith) (omega arith),
    )

pub returns : goal.returns
returns c =
    let l = c.loop-i in
    let a = c.args in
    l.invariant.2 ∙ ap (λ (r : List ℕ). over a.at r a.out.now) (take_all l.i a.src.now (omega arith))
