-- `slips::places::is_typed` meets its contract. Assumes nothing.
use Rattle.slips.proofs.Finding.{typed_none, typed_some}
use Rattle.slips.proofs.places.is_typed.Goals as goal

pub returns-then-n-gt0 : goal.returns-then-n-gt0
returns-then-n-gt0 c = search typed_some

pub returns-else-n-gt0 : goal.returns-else-n-gt0
returns-else-n-gt0 c = search typed_none
