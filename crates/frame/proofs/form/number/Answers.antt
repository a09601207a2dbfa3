-- `frame::form::number` meets its contract: a varint that fits is one write. Assumes nothing.
use native.Mathlib.Omega.{arith}
use Rattle.wire.proofs.Writes.{written_over}
use Rattle.frame.proofs.form.number.Goals as goal

pub returns : goal.returns
returns c = (omega arith, written_over _ _ _ _ c.write.ensures)
