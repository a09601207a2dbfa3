-- `sha256::small0` meets its contract: from two rotations.
use Rattle.bits.specs.Word.{rotr}
use Rattle.sha256.specs.Functions.{σ0}
use Rattle.sha256.proofs.small0.Goals as goal

pub returns : goal.returns
unfolding σ0 rotr
returns c = rw (c.rotate_right.ensures, c.rotate_right-2.ensures)
