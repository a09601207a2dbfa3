-- `manifest::judge::whole` meets its contract: each judgement in the order of the keys, then the
-- size. Assumes nothing.
use Rattle.wire.proofs.Answers.{handed}
use Rattle.manifest.specs.Writing.{listed, manifest_verdict}
use Rattle.entry.proofs.Verdicts.{verdicts}
use Rattle.wire.proofs.Both.{hold_both, first_fails, second_fails}
use Rattle.manifest.proofs.Lengths.{outcome_stop, outcome_on, total_fits, judge_large, judge_whole}
use Rattle.manifest.proofs.judge.whole.Goals as goal

pub returns-then-not-seed_allowed : goal.returns-then-not-seed_allowed
unfolding manifest_verdict listed
returns-then-not-seed_allowed c = search verdicts depth 40

pub returns-then-m-lt1 : goal.returns-then-m-lt1
unfolding manifest_verdict listed
returns-then-m-lt1 c = search (verdicts, hold_both, first_fails, second_fails) depth 40

pub returns-then-m-gt-MOST_FILES : goal.returns-then-m-gt-MOST_FILES
unfolding manifest_verdict listed
returns-then-m-gt-MOST_FILES c = search (verdicts, hold_both, first_fails, second_fails) depth 40

pub returns-in_err-len : goal.returns-in_err-len
unfolding manifest_verdict listed
returns-in_err-len c = search (verdicts, hold_both, first_fails, second_fails, outcome_stop, handed _ _ c.from_residual.ensures, c.in_err-len.ensures) depth 40

pub returns-then-not-agree : goal.returns-then-not-agree
unfolding manifest_verdict listed
returns-then-not-agree c = search (verdicts, hold_both, first_fails, second_fails, outcome_on, c.in_ok-len.ensures) depth 40

pub returns-then-not-created_allowed : goal.returns-then-not-created_allowed
unfolding manifest_verdict listed
returns-then-not-created_allowed c = search (verdicts, hold_both, first_fails, second_fails, outcome_on, c.in_ok-len.ensures) depth 40

pub total-n-requires : goal.total-n-requires
total-n-requires c = search (total_fits, c.in_ok-len.ensures)

pub returns-then-n-gt-MOST_MANIFEST : goal.returns-then-n-gt-MOST_MANIFEST
returns-then-n-gt-MOST_MANIFEST c = search (judge_large, c.in_ok-len.ensures)

pub returns : goal.returns
returns c = search (judge_whole, c.in_ok-len.ensures)
