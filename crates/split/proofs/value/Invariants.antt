-- `split::value` meets its contract. The loop's invariant: `made` is the value of the coefficients
-- from i on. Assumes nothing.
use Rattle.split.proofs.Values.{Upper}
use Rattle.split.proofs.value.Given as goal

abbrev pub invariant-loop-i : goal.invariant-loop-i
invariant-loop-i l = Upper l.more l.i l.coefficients l.point l.made
