use Rattle.slips.proofs.Lines.{stop_fits}
use Rattle.slips.proofs.Finding.{run_ends, running_on, run_all}
use Rattle.slips.proofs.places.typed_end.Goals as goal

pub slice_bounds-is_typed-end : goal.slice_bounds-is_typed-end
slice_bounds-is_typed-end c = search stop_fits

pub returns-then-not-is_typed : goal.returns-then-not-is_typed
returns-then-not-is_typed c = search run_ends

pub loop-last-preserved : goal.loop-last-preserved
loop-last-preserved c = search running_on

pub returns : goal.returns
returns c = search run_all
