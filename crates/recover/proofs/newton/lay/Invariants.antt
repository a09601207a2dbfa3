-- `recover::newton::lay` meets its contract. The invariant: the first i points stand there.
-- Assumes nothing.
use mathlib.Core.List.{map}
use Rattle.recover.specs.Recover.{points}
use Rattle.recover.specs.Private.{slip_in, Laid}
use Rattle.recover.proofs.newton.lay.Given as goal

abbrev pub invariant-loop-i : goal.invariant-loop-i
invariant-loop-i l = Laid l.i (points l.k (map slip_in l.slips)) l.curve
