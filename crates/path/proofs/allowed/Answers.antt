-- `path::allowed` meets its contract. Assumes nothing.
use native.Mathlib.Omega.{arith}
use Rattle.path.proofs.Verdicts.{zero_decides}
use Rattle.path.proofs.allowed.Goals as goal

pub returns : goal.returns
returns c = zero_decides _ _ (omega arith) c.if-not-plain.ensures c.if-not-are_names.ensures c.contains.ensures.value
