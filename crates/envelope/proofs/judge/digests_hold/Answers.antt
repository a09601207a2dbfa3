use Rattle.envelope.proofs.Loops.{contents_within, within_fits, digesting_stop, digesting_on, digesting_end}
use Rattle.envelope.proofs.judge.digests_hold.Goals as goal

pub overflow_add-end : goal.overflow_add-end
overflow_add-end c = search within_fits

pub slice_bounds-sha256-end : goal.slice_bounds-sha256-end
slice_bounds-sha256-end c = search contents_within

pub returns-then-not-equal : goal.returns-then-not-equal
returns-then-not-equal c = search digesting_stop

pub loop-i-preserved : goal.loop-i-preserved
loop-i-preserved c = search digesting_on

pub returns : goal.returns
returns c = search digesting_end
