use Rattle.slips.proofs.Lines.{end_fits}
use Rattle.slips.proofs.Finding.{next_scan, next_typed, next_last, nexting_on, next_end}
use Rattle.slips.proofs.places.next.Goals as goal

pub slice_bounds-counted-end : goal.slice_bounds-counted-end
slice_bounds-counted-end c = search end_fits

pub returns-then-n-gt-FULL_LINE : goal.returns-then-n-gt-FULL_LINE
returns-then-n-gt-FULL_LINE c = search next_scan

pub returns-then-n-gt0 : goal.returns-then-n-gt0
returns-then-n-gt0 c = search next_typed

pub returns-then-s-end : goal.returns-then-s-end
returns-then-s-end c = search next_last

pub loop-from-preserved : goal.loop-from-preserved
loop-from-preserved c = search nexting_on

pub returns : goal.returns
returns c = search next_end
