-- `recover::recover` meets its contract: the first slip that is not read, none at all, or what all
-- say together. Assumes nothing.
use native.Mathlib.Omega.{arith}
use Rattle.wire.proofs.Answers.{err_is}
use Rattle.recover.proofs.Verdicts.{one_unread, no_slips, all_read_then}
use Rattle.recover.proofs.recover.Goals as goal

pub returns-in_err-all_read : goal.returns-in_err-all_read
returns-in_err-all_read c =
    one_unread _ _ c.new-slips.ensures _ c.in_err-all_read.ensures _ (err_is _ _ c.from_residual.ensures) _

pub returns-then-count-lt1 : goal.returns-then-count-lt1
returns-then-count-lt1 c = no_slips c.new-slips.result _ c.new-slips.ensures (omega arith) _

pub returns : goal.returns
returns c = all_read_then _ _ c.new-slips.ensures c.in_ok-all_read.ensures _ _ c.combine.result c.combine.ensures
