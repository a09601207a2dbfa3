-- `sha256::maj` meets its contract: by computing.
use mathlib.Core.Path.{refl}
use Rattle.sha256.specs.Functions.{maj}
use Rattle.sha256.proofs.maj.Goals as goal

pub returns : goal.returns
unfolding maj
returns c = refl
