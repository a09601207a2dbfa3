use Rattle.typing.proofs.Counting.{counting_none, count_found, counting_on, counting_end}
use Rattle.typing.proofs.faults.count.Goals as goal

pub loop-c-init : goal.loop-c-init
loop-c-init c = counting_none _

pub returns-in-Err : goal.returns-in-Err
returns-in-Err c = search count_found

pub loop-c-preserved : goal.loop-c-preserved
loop-c-preserved c = search counting_on

pub returns : goal.returns
returns c = search counting_end
