-- `sha256::big0` meets its contract: from three rotations.
use Rattle.bits.specs.Word.{rotr}
use Rattle.sha256.specs.Functions.{Σ0}
use Rattle.sha256.proofs.big0.Goals as goal

pub returns : goal.returns
unfolding Σ0 rotr
returns c = rw (c.rotate_right.ensures, c.rotate_right-2.ensures, c.rotate_right-3.ensures)
