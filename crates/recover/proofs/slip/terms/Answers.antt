-- `recover::slip::terms` meets its contract: the shard reader takes no other threshold and length.
-- Assumes nothing.
use Rattle.recover.proofs.Payloads.{terms_said}
use Rattle.recover.proofs.slip.terms.Goals as goal

pub returns : goal.returns
returns c = terms_said _ _ c.said-v.ensures (λ i. (c.type_inv.payload i).fits)
