-- `cbor::read::name` meets its contract: the bytes are there and the same, or there and others, or
-- the input ends before. Assumes nothing.
use Rattle.wire.proofs.Answers.{handed_step}
use Rattle.cbor.proofs.Within.{there_starts, there_ends, name_cut, name_there, name_other}
use Rattle.cbor.proofs.read.name.Goals as goal

pub returns-in_err-end : goal.returns-in_err-end
returns-in_err-end c = handed_step _ _ c.from_residual.ensures _ (name_cut _ _ _ _ c.in_err-end.ensures)

pub slice_bounds-equal-count : goal.slice_bounds-equal-count
slice_bounds-equal-count c = search (there_starts, c.in_ok-end.ensures)

pub slice_bounds-equal-start : goal.slice_bounds-equal-start
slice_bounds-equal-start c = search (there_starts, c.in_ok-end.ensures)

pub slice_bounds-equal-end : goal.slice_bounds-equal-end
slice_bounds-equal-end c = search (there_ends, c.in_ok-end.ensures)

pub returns-then-equal : goal.returns-then-equal
returns-then-equal c = search (name_there, c.in_ok-end.ensures)

pub returns : goal.returns
returns c = search (name_other, c.in_ok-end.ensures)
