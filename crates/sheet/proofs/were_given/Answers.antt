-- `sheet::were_given` meets its contract. Assumes nothing.
use Rattle.sheet.proofs.Refusals.{none_given, some_given}
use Rattle.sheet.proofs.were_given.Goals as goal

pub returns-then-given-eq0 : goal.returns-then-given-eq0
returns-then-given-eq0 c = search none_given

pub returns : goal.returns
returns c = search some_given
