use Rattle.envelope.proofs.Loops.{summing_stop, summing_on, summing_end}
use Rattle.envelope.proofs.judge.adds_up.Goals as goal

pub returns-then-left-f : goal.returns-then-left-f
returns-then-left-f c = search summing_stop

pub loop-f-preserved : goal.loop-f-preserved
loop-f-preserved c = search summing_on

pub returns : goal.returns
returns c = search summing_end
