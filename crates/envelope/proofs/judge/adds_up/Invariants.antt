-- `envelope::judge::adds_up` meets its contract. The loop's invariant: the answer is that of the
-- files that are left. Assumes nothing.
use Rattle.envelope.proofs.Loops.{Summing}
use Rattle.envelope.proofs.judge.adds_up.Given as goal

abbrev pub invariant-loop-f : goal.invariant-loop-f
invariant-loop-f l = Summing l.files l.n l.left l.f-index
