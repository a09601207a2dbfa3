-- `frame::in_size` meets its contract: each test picks its case. Assumes nothing.
use Rattle.wire.proofs.Branch.{branch}
use Rattle.frame.specs.Frame.{in_size}
use Rattle.frame.proofs.in_size.Goals as goal

pub returns-then-total : goal.returns-then-total
unfolding in_size
returns-then-total c = search branch

pub returns-else-total : goal.returns-else-total
unfolding in_size
returns-else-total c = search branch
