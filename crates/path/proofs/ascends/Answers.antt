-- `path::ascends` meets its contract. Assumes nothing.
use Rattle.path.proofs.Orders.{less_is_below}
use Rattle.path.proofs.ascends.Goals as goal

pub returns : goal.returns
returns c = less_is_below _ _ _ c.lt.ensures
