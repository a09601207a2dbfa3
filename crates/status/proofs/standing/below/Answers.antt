-- `status::standing::below` meets its contract. Assumes nothing.
use Rattle.status.proofs.Standings.{counts_are}
use Rattle.status.proofs.standing.below.Goals as goal

pub returns : goal.returns
returns c = search counts_are
