-- `digits::decimal` meets its contract. Assumes nothing.
use native.Mathlib.Omega.{arith}
use Rattle.digits.proofs.Decimals.{decimal_laid}
use Rattle.digits.proofs.decimal.Goals as goal

pub returns : goal.returns
returns c = decimal_laid _ _ _ _ _ (omega arith) (rw c.from.ensures at c.number.ensures)
