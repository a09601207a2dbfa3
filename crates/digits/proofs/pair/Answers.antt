-- `digits::pair` meets its contract. Assumes nothing.
use Rattle.digits.specs.Hex.{hex_of}
use Rattle.digits.proofs.pair.Goals as goal

pub returns : goal.returns
unfolding hex_of
returns c = cc
