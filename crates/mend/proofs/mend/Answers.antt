-- `mend::mend` meets its contract. Assumes nothing.
use mathlib.Core.Path.{refl}
use Rattle.wire.proofs.Answers.{err_is}
use Rattle.book.proofs.Judging.{head_passed}
use Rattle.mend.proofs.Mending.{mend_refused, mend_made}
use Rattle.mend.proofs.mend.Goals as goal

pub returns-in_err-judge_head : goal.returns-in_err-judge_head
returns-in_err-judge_head c = rw (err_is _ _ c.from_residual.ensures) (mend_refused _ _ c.in_err-judge_head.ensures)

pub pages-requires : goal.pages-requires
pages-requires c = head_passed _ _ c.in_ok-judge_head.ensures refl

pub returns : goal.returns
returns c = mend_made _ c.in_ok-judge_head.ensures _ _ c.pages.ensures
