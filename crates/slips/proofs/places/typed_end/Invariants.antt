-- `slips::places::typed_end` meets its contract. What is left decides. Assumes nothing.
use Prim.Native.Nat.{◌-◌}
use lib.ListN.{length}
use Rattle.slips.proofs.Finding.{Running}
use Rattle.slips.proofs.places.typed_end.Given as goal

abbrev pub invariant-loop-last : goal.invariant-loop-last
invariant-loop-last l = Running l.s l.end l.last

abbrev pub decreases-loop-last : goal.decreases-loop-last
decreases-loop-last l = length l.s - l.last
