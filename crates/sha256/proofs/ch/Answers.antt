-- `sha256::ch` meets its contract: by computing.
use mathlib.Core.Path.{refl}
use Rattle.sha256.specs.Functions.{ch}
use Rattle.sha256.proofs.ch.Goals as goal

pub returns : goal.returns
unfolding ch
returns c = refl
