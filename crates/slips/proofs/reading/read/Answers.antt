-- `slips::reading::read` meets its contract. Assumes nothing.
use Rattle.slips.proofs.Seeing.{text_within, text_room, no_text_seen, text_seen_lem}
use Rattle.slips.proofs.reading.read.Goals as goal

pub slice_bounds-room-end : goal.slice_bounds-room-end
slice_bounds-room-end c = search text_within

pub slice_bounds-framed-end : goal.slice_bounds-framed-end
slice_bounds-framed-end c = search text_room

pub returns-in-Err : goal.returns-in-Err
returns-in-Err c = search no_text_seen

pub returns-in-Ok : goal.returns-in-Ok
returns-in-Ok c = search text_seen_lem
