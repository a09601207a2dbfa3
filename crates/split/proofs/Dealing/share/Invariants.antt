-- `split::Dealing::share` meets its contract. The loop's invariant: the first k blocks stand in the
-- output.
-- Assumes nothing.
use Rattle.split.proofs.Turns.{Laid}
use Rattle.split.proofs.Dealing.share.Given as goal

abbrev pub invariant-loop-k : goal.invariant-loop-k
invariant-loop-k l = Laid l.self.n l.self.more l.self.secret.now l.self.coefficients.now l.point l.at l.initial.out l.k l.out
