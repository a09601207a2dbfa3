-- `slips::repeated` meets its contract. What is left decides. Assumes nothing.
use Rattle.slips.proofs.Repeats.{Repeating}
use Rattle.slips.proofs.repeated.Given as goal

abbrev pub invariant-loop-j : goal.invariant-loop-j
invariant-loop-j l = Repeating l.s l.j
