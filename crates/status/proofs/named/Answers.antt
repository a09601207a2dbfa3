-- `status::named` meets its contract. Assumes nothing.
use Rattle.status.proofs.Lines.{name_put}
use Rattle.status.proofs.named.Goals as goal

pub returns : goal.returns
returns c =
    name_put _ _ _ _ _ _ _ c.requires c.copy.ensures c.decimal.ensures
