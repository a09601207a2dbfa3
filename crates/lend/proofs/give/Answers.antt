-- `give` meets its contract. Assumes nothing.
use mathlib.Core.Path.{refl}
use native.Mathlib.Omega.{arith}
use Rattle.wire.proofs.Writes.{written, no_room}
use Rattle.lend.proofs.give.Goals as goal

pub returns-then-out-text : goal.returns-then-out-text
returns-then-out-text c = no_room 0 _ _ (omega arith)

pub returns : goal.returns
returns c = written 0 _ _ _ _ (omega arith) refl c.copy.ensures
