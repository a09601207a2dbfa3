use Rattle.split.proofs.Values.{no_upper, upper_lower, upper_all}
use Rattle.split.proofs.value.Goals as goal

pub loop-i-init : goal.loop-i-init
loop-i-init c = no_upper _ _ _

pub loop-i-preserved : goal.loop-i-preserved
loop-i-preserved c = search upper_lower

pub returns : goal.returns
returns c = search upper_all
