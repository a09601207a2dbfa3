-- `cbor::read::big_endian_at` meets its contract: the bytes are there, or the input ends before.
-- Assumes nothing.
use Rattle.wire.proofs.Answers.{handed}
use Rattle.cbor.proofs.Within.{there_starts, there_ends, there_few, number_there, number_cut}
use Rattle.cbor.proofs.read.big_endian_at.Goals as goal

pub returns-in_err-next : goal.returns-in_err-next
returns-in_err-next c = handed _ _ c.from_residual.ensures _ (number_cut _ _ _ _ c.in_err-next.ensures)

pub slice_bounds-big_endian-count : goal.slice_bounds-big_endian-count
slice_bounds-big_endian-count c = search (there_starts, c.in_ok-next.ensures)

pub slice_bounds-big_endian-start : goal.slice_bounds-big_endian-start
slice_bounds-big_endian-start c = search (there_starts, c.in_ok-next.ensures)

pub slice_bounds-big_endian-end : goal.slice_bounds-big_endian-end
slice_bounds-big_endian-end c = search (there_ends, c.in_ok-next.ensures)

pub big_endian-requires : goal.big_endian-requires
big_endian-requires c = search (there_few, c.in_ok-next.ensures)

pub returns : goal.returns
returns c = search (number_there, c.in_ok-next.ensures)
