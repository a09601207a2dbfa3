-- `typing::faults::odd_line` meets its contract. What is left decides. Assumes nothing.
use Rattle.typing.proofs.Searching.{Looking}
use Rattle.typing.proofs.faults.odd_line.Given as goal

abbrev pub invariant-loop-c : goal.invariant-loop-c
invariant-loop-c l = Looking l.text l.n l.c-index
