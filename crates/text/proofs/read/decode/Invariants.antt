-- `text::read::decode` meets its contract. The loop's invariant: the bytes of the first i
-- characters stand in out. Assumes nothing.
use mathlib.Core.Path.{◌≡◌}
use mathlib.Core.List.{List}
use Prim.Native.Nat.{ℕ, ◌≤◌}
use lib.ListN.{length}
use Rattle.wire.specs.Over.{over}
use Rattle.text.proofs.Reading.{Reading}
use Rattle.text.proofs.read.decode.Given as goal

abbrev pub invariant-loop-c : goal.invariant-loop-c
invariant-loop-c l = (l.c-index ≤ length l.text) × ((ys : List ℕ) × (Reading l.w l.text l.c-index l.s ys) × (l.out ≡ over 0 ys l.initial.out))
