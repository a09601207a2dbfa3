-- `text::read::judge` meets its contract. The loop's invariant: the first i characters are read.
-- Assumes nothing.
use mathlib.Core.List.{List}
use Prim.Native.Nat.{ℕ, ◌≤◌}
use lib.ListN.{length}
use Rattle.text.proofs.Reading.{Reading}
use Rattle.text.proofs.read.judge.Given as goal

abbrev pub invariant-loop-c : goal.invariant-loop-c
invariant-loop-c l = (l.c-index ≤ length l.text) × ((ys : List ℕ) × Reading l.w l.text l.c-index l.s ys)
