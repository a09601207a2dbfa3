-- `text::read::emit` meets its contract. Assumes nothing.
use mathlib.Core.Path.{sym}
use native.Mathlib.Omega.{arith}
use Rattle.wire.proofs.Overs.{set_over, over_none}
use Rattle.text.proofs.read.emit.Goals as goal

pub bounds-out-at : goal.bounds-out-at
bounds-out-at c = omega (arith, rw c.in-Some.is at c.requires)

pub returns-in-Some : goal.returns-in-Some
returns-in-Some c = rw c.in-Some.is (set_over _ _ _ (omega (arith, rw c.in-Some.is at c.requires)))

pub returns-in_default : goal.returns-in_default
returns-in_default c = rw c.in_default.is (sym (over_none _ _))
