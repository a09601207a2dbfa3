use native.Mathlib.Omega.{arith}
use Rattle.lend.proofs.Shown.{shown_on}
use Rattle.lend.proofs.plain.Goals as goal

pub loop-b-preserved : goal.loop-b-preserved
loop-b-preserved c = shown_on _ _ _ _ _ c.loop-b.invariant (omega arith) c.loop-b.auto.word c.plain_byte.ensures
