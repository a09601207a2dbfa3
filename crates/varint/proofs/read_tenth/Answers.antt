-- `varint::read_tenth` meets its contract, case by case of its test. Assumes nothing.
use native.Mathlib.Omega.{arith}
use borrow.Author.Rules.{rules}
use Rattle.varint.proofs.Turns.{tenth_above, tenth_ending, tenth_adds}
use Rattle.varint.proofs.read_tenth.Goals as goal

pub returns-then-b-gt1 : goal.returns-then-b-gt1
returns-then-b-gt1 c = tenth_above _ _ _ _ (omega arith)

pub read_ending-requires : goal.read_ending-requires
read_ending-requires c = tenth_adds _ _ _ (omega arith) (omega arith)

pub returns : goal.returns
returns c = tenth_ending _ _ _ _ _ (omega arith) (search rules)
