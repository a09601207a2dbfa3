-- `recover::slip::same_parts` meets its contract. Assumes nothing.
use Rattle.recover.proofs.Payloads.{compared}
use Rattle.recover.proofs.slip.same_parts.Goals as goal

pub returns : goal.returns
returns c = search compared
