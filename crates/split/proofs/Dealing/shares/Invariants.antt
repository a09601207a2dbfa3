-- `split::Dealing::shares` meets its contract. The loop's invariant: the first i shares stand in
-- the output.
-- Assumes nothing.
use Rattle.split.proofs.Turns.{Given}
use Rattle.split.proofs.Dealing.shares.Given as goal

abbrev pub invariant-loop-i : goal.invariant-loop-i
invariant-loop-i l = Given l.count l.self.n l.self.more l.self.secret.now l.self.coefficients.now l.initial.out l.i l.out
