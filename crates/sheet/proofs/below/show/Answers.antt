-- `sheet::below::show` meets its contract. Assumes nothing.
use Rattle.sheet.proofs.Groups.{shown_behind, shown_alone}
use Rattle.sheet.proofs.below.show.Goals as goal

pub returns-then-begins : goal.returns-then-begins
returns-then-begins c = search shown_behind

pub returns : goal.returns
returns c = search shown_alone
