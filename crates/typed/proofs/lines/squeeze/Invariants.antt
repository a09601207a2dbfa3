-- `typed::lines::squeeze` meets its contract. Assumes nothing.
use Prim.Native.Nat.{◌≤◌}
use lib.ListN.{length}
use Rattle.typed.proofs.Judging.{Squeezed}
use Rattle.typed.proofs.lines.squeeze.Given as goal

abbrev pub invariant-loop-c : goal.invariant-loop-c
invariant-loop-c l = (l.c-index ≤ length l.text) × Squeezed l.text l.initial.kept l.kept l.n l.c-index
