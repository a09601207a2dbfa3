-- `slips::hex` meets its contract. Assumes nothing.
use Rattle.slips.proofs.Seeing.{hex_refused, hex_given}
use Rattle.slips.proofs.hex.Goals as goal

pub returns-then-text-size : goal.returns-then-text-size
returns-then-text-size c = search hex_refused

pub returns : goal.returns
returns c = search hex_given
