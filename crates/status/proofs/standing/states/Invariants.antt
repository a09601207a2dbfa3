-- `status::standing::states` meets its contract. Assumes nothing.
use Rattle.status.proofs.Standings.{Shown}
use Rattle.status.proofs.standing.states.Given as goal

abbrev pub invariant-loop-k : goal.invariant-loop-k
invariant-loop-k l = Shown l.c l.initial.out l.out l.k
