-- `varint::read_ending` meets its contract, case by case of its test. Assumes nothing.
use native.Mathlib.Omega.{arith}
use Rattle.varint.proofs.Turns.{ending_zero, ending_byte}
use Rattle.varint.proofs.read_ending.Goals as goal

pub returns-then-b-eq0 : goal.returns-then-b-eq0
returns-then-b-eq0 c = ending_zero _ _ _ _ (omega arith)

pub returns : goal.returns
returns c = ending_byte _ _ _ _ (omega arith)
