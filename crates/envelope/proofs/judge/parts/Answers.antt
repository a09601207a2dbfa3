-- `envelope::judge::parts` meets its contract: the manifest's reader, then the sum, then the
-- digests. Assumes nothing.
use borrow.Author.Tests.{not-true, not-false}
use Rattle.wire.proofs.Answers.{handed_at}
use Rattle.envelope.proofs.Judging.{told_listed, judge_refused, count_fits, judge_sum, judge_digests}
use Rattle.envelope.proofs.judge.parts.Goals as goal

pub returns-in_err-value : goal.returns-in_err-value
returns-in_err-value c = handed_at _ _ c.from_residual.ensures _ (judge_refused _ _ _ c.in_err-value.ensures)

pub shared_ref_as_front-files : goal.shared_ref_as_front-files
shared_ref_as_front-files c = (count_fits _ _ _ c.in_ok-value.ensures).0

pub returns-then-not-adds_up : goal.returns-then-not-adds_up
returns-then-not-adds_up c = judge_sum _ _ _ (told_listed _ _ _ c.in_ok-value.ensures) _ c.adds_up.ensures (search not-true)

pub returns : goal.returns
returns c = judge_digests _ _ _ (told_listed _ _ _ c.in_ok-value.ensures) _ c.adds_up.ensures (search not-false) _ c.digests_hold.ensures
