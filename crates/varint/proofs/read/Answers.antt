-- `varint::read` meets its contract: no byte, one byte, or a first of several. Assumes nothing.
use native.Mathlib.Omega.{arith}
use Rattle.varint.proofs.Turns.{first_none, first_only, first_of_more}
use Rattle.varint.proofs.read.Goals as goal

pub returns-then-s-at : goal.returns-then-s-at
returns-then-s-at c = first_none _ _ (omega arith)

pub returns-then-first-lt128 : goal.returns-then-first-lt128
returns-then-first-lt128 c = search first_only

pub returns : goal.returns
returns c = search first_of_more
