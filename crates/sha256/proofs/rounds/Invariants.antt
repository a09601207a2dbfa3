-- `sha256::rounds` meets its contract: the first t rounds are done, and a turn does the next.
use mathlib.Core.Path.{◌≡◌}
use Rattle.sha256.specs.Sha.{rounds}
use Rattle.sha256.proofs.rounds.Given as goal

abbrev pub invariant-loop-t : goal.invariant-loop-t
invariant-loop-t l = l.x ≡ rounds l.t l.w l.initial.x
