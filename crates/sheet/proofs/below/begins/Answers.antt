-- `sheet::below::begins` meets its contract. Assumes nothing.
use Rattle.sheet.proofs.Groups.{feed_begins_none, other_begins}
use Rattle.sheet.proofs.below.begins.Goals as goal

pub returns-then-c-ne10 : goal.returns-then-c-ne10
returns-then-c-ne10 c = other_begins _ _ c.if-c-ne10.true

pub returns-else-c-ne10 : goal.returns-else-c-ne10
returns-else-c-ne10 c = feed_begins_none _ _ c.if-c-ne10.false
