-- `typed::check::of` meets its contract. Assumes nothing.
use Rattle.typed.proofs.Weighing.{check_is}
use Rattle.typed.proofs.check.of.Goals as goal

pub returns : goal.returns
returns c = rw c.from.ensures (check_is _ _ _ c.weigh.ensures.0)
