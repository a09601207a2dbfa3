-- `sha256::zeros` meets its contract: by computing.
use mathlib.Core.Path.{refl}
use native.Mathlib.Omega.{arith}
use Rattle.sha256.specs.Message.{zeros}
use Rattle.sha256.proofs.zeros.Goals as goal

pub returns : goal.returns
unfolding zeros
returns c = (refl, omega arith)
