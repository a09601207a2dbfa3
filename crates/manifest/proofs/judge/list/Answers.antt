use Rattle.wire.proofs.Answers.{handed}
use Rattle.manifest.proofs.Judging.{taken_few, judge_no, sum_fits, judge_more, judge_end}
use Rattle.manifest.proofs.judge.list.Goals as goal

pub returns-in_err-len : goal.returns-in_err-len
returns-in_err-len c = search (handed _ _ c.from_residual.ensures, judge_no, c.in_err-len.ensures)

pub overflow_add-sum : goal.overflow_add-sum
overflow_add-sum c = search (sum_fits, taken_few, c.in_ok-len.ensures)

pub loop-f-preserved : goal.loop-f-preserved
loop-f-preserved c = search (judge_more, c.in_ok-len.ensures)

pub returns : goal.returns
returns c = search judge_end
