use Rattle.typing.proofs.Searching.{looking_none, odd_here, looking_on, none_odd}
use Rattle.typing.proofs.faults.odd_line.Goals as goal

pub loop-c-init : goal.loop-c-init
loop-c-init c = looking_none _

pub returns-then-not-may_stand : goal.returns-then-not-may_stand
returns-then-not-may_stand c = search odd_here

pub loop-c-preserved : goal.loop-c-preserved
loop-c-preserved c = search looking_on

pub returns : goal.returns
returns c = search none_odd
