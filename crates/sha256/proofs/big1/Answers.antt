-- `sha256::big1` meets its contract: from three rotations.
use Rattle.bits.specs.Word.{rotr}
use Rattle.sha256.specs.Functions.{Σ1}
use Rattle.sha256.proofs.big1.Goals as goal

pub returns : goal.returns
unfolding Σ1 rotr
returns c = rw (c.rotate_right.ensures, c.rotate_right-2.ensures, c.rotate_right-3.ensures)
