-- `lend::copy_fitting` meets its contract. The loop's invariant: the first i bytes of src stand in
-- out. Assumes nothing.
use Prim.Native.Nat.{◌≤◌}
use mathlib.Core.Path.{◌≡◌}
use lib.ListN.{length, take}
use Rattle.wire.specs.Over.{over}
use Rattle.lend.proofs.copy_fitting.Given as goal

abbrev pub invariant-loop-i : goal.invariant-loop-i
invariant-loop-i l = (l.i ≤ length l.src) × (length l.out ≡ length l.initial.out) × (l.out ≡ over l.at (take l.i l.src) l.initial.out)
