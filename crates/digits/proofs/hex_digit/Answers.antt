-- `digits::hex_digit` meets its contract. Assumes nothing.
use Rattle.digits.proofs.Hexes.{figure_written, letter_written}
use Rattle.digits.proofs.hex_digit.Goals as goal

pub returns-in-0-to-9 : goal.returns-in-0-to-9
returns-in-0-to-9 c = search figure_written

pub returns-in_default : goal.returns-in_default
returns-in_default c = search letter_written
