-- `page::write` meets its contract: count, place, and then the frame of the part. Assumes nothing.
use native.Mathlib.Omega.{arith}
use Rattle.wire.proofs.Answers.{err_is}
use Rattle.page.proofs.Cutting.{none_counted, none_there, start_fits, start_within, page_laid}
use Rattle.page.proofs.write.Goals as goal

pub returns-in_err-n : goal.returns-in_err-n
returns-in_err-n c = rw (err_is _ _ c.from_residual.ensures) (none_counted _ _ _ _ _ c.in_err-n.ensures)

pub returns-then-n-number : goal.returns-then-n-number
returns-then-n-number c = none_there _ _ _ _ c.in_ok-n.ensures _ c.if-n-number.true

pub overflow_mul-start : goal.overflow_mul-start
overflow_mul-start c = start_fits _ _ _ _ c.in_ok-n.ensures c.if-n-number.false

pub overflow_sub-c : goal.overflow_sub-c
overflow_sub-c c = start_within _ _ _ _ c.in_ok-n.ensures c.if-n-number.false

pub overflow_add-end : goal.overflow_add-end
overflow_add-end c = omega (arith, start_within _ _ _ _ c.in_ok-n.ensures c.if-n-number.false, c.min.ensures)

pub slice_bounds-lay-end : goal.slice_bounds-lay-end
slice_bounds-lay-end c = omega (arith, start_within _ _ _ _ c.in_ok-n.ensures c.if-n-number.false, c.min.ensures)

pub returns : goal.returns
returns c =
    page_laid _ _ _ _ c.in_ok-n.ensures c.if-n-number.false _ _ _ _ _ (omega (arith, c.min.ensures)) c.of-id.ensures (rw c.from.ensures at c.lay.ensures)
