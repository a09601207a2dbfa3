-- `field::word` meets its contract. The loop's invariant: w is the number of the first i bytes.
-- Assumes nothing.
use mathlib.Core.Path.{◌≡◌}
use Prim.Native.Nat.{◌^◌, ◌<◌}
use lib.ListN.{drop}
use Rattle.wire.specs.Number.{number}
use Rattle.field.specs.Element.{filled}
use Rattle.field.proofs.word.Given as goal

abbrev pub invariant-loop-i : goal.invariant-loop-i
invariant-loop-i l = (l.w ≡ number 256 (filled l.i (drop l.k l.s))) × (l.w < 256 ^ l.i)
