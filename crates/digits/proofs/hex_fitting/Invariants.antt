-- `digits::hex_fitting` meets its contract. The loop's invariant: the digits of the bytes passed
-- stand in out. Assumes nothing.
use Rattle.digits.proofs.Hexes.{Hexed}
use Rattle.digits.proofs.hex_fitting.Given as goal

abbrev pub invariant-loop-i : goal.invariant-loop-i
invariant-loop-i l = Hexed l.at l.src l.initial.out l.i l.out
