-- `typing::lay::belong` meets its contract. Assumes nothing.
use Rattle.typing.proofs.Laying.{full_belong, least_belong, most_belong}
use Rattle.typing.proofs.lay.belong.Goals as goal

pub returns-then-count-lt-FULL_LINE : goal.returns-then-count-lt-FULL_LINE
returns-then-count-lt-FULL_LINE c = search least_belong

pub returns-then-last : goal.returns-then-last
returns-then-last c = search most_belong

pub returns : goal.returns
returns c = search full_belong
