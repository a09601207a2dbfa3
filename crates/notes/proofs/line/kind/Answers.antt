-- `notes::line::kind` meets its contract. Assumes nothing.
use Rattle.scan.proofs.Scans.{done_fits}
use Rattle.notes.proofs.Offers.{kind_long, kind_bad, kind_good}
use Rattle.notes.proofs.line.kind.Goals as goal

pub returns-then-line-gt-LINE_MOST : goal.returns-then-line-gt-LINE_MOST
returns-then-line-gt-LINE_MOST c = search kind_long

pub returns-in_default : goal.returns-in_default
returns-in_default c = search kind_bad

pub slice_bounds-offered-end : goal.slice_bounds-offered-end
slice_bounds-offered-end c = search done_fits

pub returns : goal.returns
returns c = search kind_good
