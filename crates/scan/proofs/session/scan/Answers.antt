-- `scan` meets its contract. Assumes nothing.
use Rattle.scan.proofs.Scans.{done_fits, scan_long, scan_bad, scan_good}
use Rattle.scan.proofs.session.scan.Goals as goal

pub returns-then-line-gt-LINE_MOST : goal.returns-then-line-gt-LINE_MOST
returns-then-line-gt-LINE_MOST c = search scan_long

pub returns-in_default : goal.returns-in_default
returns-in_default c = search scan_bad

pub slice_bounds-offer-end : goal.slice_bounds-offer-end
slice_bounds-offer-end c = search done_fits

pub returns : goal.returns
returns c = search scan_good
