-- `manifest::write` meets its contract: the judgement, the room, the write. That the array has 64
-- files is what owning the parameter tells. Assumes nothing.
use Rattle.manifest.proofs.Laying.{write_refused, write_short, write_ready, write_done}
use borrow.Author.Rules.{rules}
use Rattle.manifest.proofs.write.Goals as goal

pub returns-in_err-len : goal.returns-in_err-len
returns-in_err-len c = write_refused _ _ _ _ c.from_residual.ensures c.in_err-len.ensures

pub returns-then-out-len : goal.returns-then-out-len
returns-then-out-len c = write_short _ _ _ c.in_ok-len.ensures c.if-out-len.true

pub whole-requires-2 : goal.whole-requires-2
whole-requires-2 c = write_ready _ _ _ c.in_ok-len.ensures _ c.if-out-len.false (search rules)

pub returns : goal.returns
returns c = search (write_done, c.in_ok-len.ensures)
