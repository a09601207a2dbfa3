-- `typing::faults::count` meets its contract. What is left decides. Assumes nothing.
use Rattle.typing.proofs.Counting.{Counting}
use Rattle.typing.proofs.faults.count.Given as goal

abbrev pub invariant-loop-c : goal.invariant-loop-c
invariant-loop-c l = Counting l.text l.a l.c-index
