use native.Mathlib.Omega.{arith}
use Rattle.wire.proofs.Answers.{handed}
use Rattle.recover.proofs.Judging.{read_on, read_refused, read_end}
use Rattle.recover.proofs.judge.all_read.Goals as goal

pub returns-in_err-read : goal.returns-in_err-read
returns-in_err-read c =
    handed _ _ c.from_residual.ensures _ (read_refused _ _ (omega arith) _ c.payload.ensures c.loop-i.invariant _ c.in_err-read.ensures)

pub loop-i-preserved : goal.loop-i-preserved
loop-i-preserved c = read_on _ _ (omega arith) _ c.payload.ensures c.loop-i.invariant _ c.in_ok-read.ensures

pub returns : goal.returns
returns c = read_end _ _ (omega arith) c.loop-i.invariant
