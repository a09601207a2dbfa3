-- `sha256::small1` meets its contract: from two rotations.
use Rattle.bits.specs.Word.{rotr}
use Rattle.sha256.specs.Functions.{σ1}
use Rattle.sha256.proofs.small1.Goals as goal

pub returns : goal.returns
unfolding σ1 rotr
returns c = rw (c.rotate_right.ensures, c.rotate_right-2.ensures)
