use mathlib.Core.Path.{refl, ap, ◌∙◌}
use lib.ListN.{length}
use mathlib.Core.Bool.{false≢true}
use Rattle.wire.proofs.Overs.{length_over}
use Rattle.recover.proofs.Filling.{filled_none, filled_on, filled_stop, filled_end}
use Rattle.recover.proofs.blocks.Goals as goal

pub loop-k-init : goal.loop-k-init
loop-k-init c = (refl, filled_none _ _ _ _)

pub returns-in_default : goal.returns-in_default
returns-in_default c =
    (filled_stop _ _ _ _ _ _ c.loop-k.invariant.1 c.loop-k-test.true _ c.block.ensures c.in_default.is, λ e. absurd (false≢true e))

pub loop-k-preserved : goal.loop-k-preserved
loop-k-preserved c = (
  ap length c.copy.ensures ∙ length_over _ _ _ ∙ c.loop-k.invariant.0,
  filled_on _ _ _ _ _ _ c.loop-k.invariant.1 c.loop-k-test.true _ c.block.ensures _ c.in-Some.is c.requires.3 _ _ c.bytes.ensures c.copy.ensures,
)

pub returns : goal.returns
returns c = filled_end _ _ _ _ _ _ c.loop-k.invariant.1 c.loop-k-test.false
