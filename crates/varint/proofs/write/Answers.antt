-- `varint::write` meets its contract: `size` says whether the number fits. Assumes nothing.
use native.Mathlib.Omega.{arith}
use borrow.Author.Rules.{rules}
use Rattle.wire.proofs.Writes.{written, no_room}
use Rattle.varint.proofs.write.Goals as goal
use Rattle.varint.proofs.write.Goals.{then-out-at-via-then-out-at, then-out-at-via-else-out-at+then-out-at-2}

pub returns-then-out-at : goal.returns-then-out-at
returns-then-out-at c = no_room _ _ _ (elim c.then-out-at.branch [
  | then-out-at-via-then-out-at w ↦ omega arith
  | then-out-at-via-else-out-at+then-out-at-2 w ↦ omega arith
])

pub returns : goal.returns
returns c = written _ _ _ _ _ (omega arith) (search rules) (search rules)
