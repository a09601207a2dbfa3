-- `sheet::below::lines` meets its contract. Assumes nothing.
use Rattle.sheet.proofs.Typing.{lines_fit, lines_printed}
use Rattle.sheet.proofs.below.lines.Goals as goal

pub groups-requires : goal.groups-requires
groups-requires c = search lines_fit

pub returns : goal.returns
returns c = search lines_printed
