-- `sheet::below::printed` meets its contract. Assumes nothing.
use Rattle.sheet.proofs.Printing.{groups_none, groups_large, groups_fit, groups_end, groups_given}
use Rattle.sheet.proofs.below.printed.Goals as goal

pub returns-then-bytes-eq0 : goal.returns-then-bytes-eq0
returns-then-bytes-eq0 c = search groups_none

pub returns-then-bytes-gt-FRAME_ROOM : goal.returns-then-bytes-gt-FRAME_ROOM
returns-then-bytes-gt-FRAME_ROOM c = search groups_large

pub groups-end-requires : goal.groups-end-requires
groups-end-requires c = search groups_fit

pub slice_bounds-give-end : goal.slice_bounds-give-end
slice_bounds-give-end c = search groups_end

pub returns : goal.returns
returns c = search groups_given
