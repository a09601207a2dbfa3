use lib.Dec.{lit≤}
use Rattle.book.proofs.Judging.{head_stops, passed_none, passed_on, passed_not, passed_end}
use Rattle.wire.proofs.Answers.{err_is}
use Rattle.book.proofs.judge.Goals as goal

pub returns-in_err-judge_head : goal.returns-in_err-judge_head
returns-in_err-judge_head c = rw (err_is _ _ c.from_residual.ensures) (head_stops _ _ (c.in_err-judge_head.ensures))

pub loop-k-init : goal.loop-k-init
loop-k-init c = passed_none _ (c.in_ok-judge_head.ensures)

pub returns-then-not-page_ok : goal.returns-then-not-page_ok
returns-then-not-page_ok c = search (passed_not, lit≤)

pub loop-k-preserved : goal.loop-k-preserved
loop-k-preserved c = search (passed_on, lit≤)

pub returns : goal.returns
returns c = search passed_end
