-- `field::inverse` meets its contract: `refl` compares all of the table with the definition's.
-- Assumes nothing.
use mathlib.Core.Path.{refl}
use Rattle.field.proofs.Division.{inverse_halves}
use Rattle.field.proofs.inverse.Goals as goal

pub returns : goal.returns
returns c = rw c.from-i.ensures (inverse_halves _ _ refl)
