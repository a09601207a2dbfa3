-- `sha256::digest` meets its contract: a turn writes the four bytes of word i.
use mathlib.Core.Path.{◌≡◌}
use Prim.Native.Nat.{◌*◌}
use lib.ListN.{length, take}
use Rattle.sha256.specs.Sha.{joined, listed}
use Rattle.sha256.proofs.digest.Given as goal

abbrev pub invariant-loop-i : goal.invariant-loop-i
invariant-loop-i l = (length l.d ≡ 32) × (take (4 * l.i) l.d ≡ joined (take l.i (listed l.fn.s)))
