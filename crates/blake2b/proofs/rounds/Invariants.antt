-- `blake2b::rounds` meets its contract. The loop's invariant: the vector is that after the first r
-- rounds. Assumes nothing.
use Rattle.std.proofs.Common.{◌≡◌}
use Rattle.blake2b.specs.Blake2b.{rounds}
use Rattle.blake2b.proofs.rounds.Given as goal

abbrev pub invariant-loop-r : goal.invariant-loop-r
invariant-loop-r l = l.v ≡ rounds l.r l.m l.initial.v
