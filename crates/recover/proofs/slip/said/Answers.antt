-- `recover::slip::said` meets its contract: what was read, or zeros. Assumes nothing.
use mathlib.Core.Path.{refl, ap, ◌∙◌}
use Rattle.recover.specs.Private.{said_shard}
use Rattle.recover.proofs.Payloads.{said_or}
use Rattle.recover.proofs.slip.said.Goals as goal

pub returns : goal.returns
returns c = ap said_shard c.unwrap_or.ensures ∙ said_or _ _ _ c.read.ensures refl
