use Rattle.digits.proofs.Hexes.{hexed_none, hexed_put, hexed_end}
use Rattle.digits.proofs.hex_fitting.Goals as goal

pub loop-i-init : goal.loop-i-init
loop-i-init c = search hexed_none

pub loop-i-preserved : goal.loop-i-preserved
loop-i-preserved c = search hexed_put

pub returns : goal.returns
returns c = search hexed_end
