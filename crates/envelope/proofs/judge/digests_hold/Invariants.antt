-- `envelope::judge::digests_hold` meets its contract. The loop's invariant: the answer is that of
-- the files that are left. Assumes nothing.
use Rattle.envelope.proofs.Loops.{Digesting}
use Rattle.envelope.proofs.judge.digests_hold.Given as goal

abbrev pub invariant-loop-i : goal.invariant-loop-i
invariant-loop-i l = Digesting l.manifest l.payload l.files l.at l.i
