-- `frame::judge` meets its contract: each test picks its case. Assumes nothing.
use borrow.Author.Tests.{not-true, not-false}
use Rattle.wire.proofs.Cases.{flag}
use Rattle.wire.proofs.Branch.{choose_yes, choose_no}
use Rattle.frame.specs.Frame.{judged}
use Rattle.frame.proofs.judge.Goals as goal

pub returns-then-not-in_place : goal.returns-then-not-in_place
unfolding judged
returns-then-not-in_place c = search (choose_no, flag, not-true)

pub returns-then-not-in_size : goal.returns-then-not-in_size
unfolding judged
returns-then-not-in_size c = search (choose_yes, choose_no, flag, not-true, not-false)

pub returns : goal.returns
unfolding judged
returns c = search (choose_yes, flag, not-false)
