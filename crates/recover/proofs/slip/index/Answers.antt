-- `recover::slip::index` meets its contract: the shard reader takes no number above 255. Assumes
-- nothing.
use Rattle.recover.proofs.Payloads.{index_small, index_said}
use Rattle.recover.proofs.slip.index.Goals as goal

pub overflow_cast-result : goal.overflow_cast-result
overflow_cast-result c = record { fits = index_small _ _ c.said-v.ensures (λ i. (c.type_inv.payload i).fits) }

pub returns : goal.returns
returns c =
    (index_said _ _ c.said-v.ensures, index_small _ _ c.said-v.ensures (λ i. (c.type_inv.payload i).fits))
