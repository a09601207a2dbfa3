-- `digits::read_fitting` meets its contract. The loop's invariant: the bytes of the digits passed
-- stand in front. Assumes nothing.
use Rattle.digits.proofs.Hexes.{Gone}
use Rattle.digits.proofs.read_fitting.Given as goal

abbrev pub invariant-loop-i : goal.invariant-loop-i
invariant-loop-i l = Gone l.s l.initial.out l.i l.out
