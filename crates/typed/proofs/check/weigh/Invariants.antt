-- `typed::check::weigh` meets its contract: what is left is still to be added. Assumes nothing.
use mathlib.Core.Path.{◌≡◌}
use Prim.Native.Nat.{◌+◌, ◌*◌, ◌≤◌}
use lib.ListN.{length, drop}
use Rattle.typed.specs.Typed.{weighed}
use Rattle.typed.proofs.check.weigh.Given as goal

abbrev pub invariant-loop-i : goal.invariant-loop-i
invariant-loop-i l = (l.i ≤ length l.contents) × (weighed 1 l.contents ≡ l.sum + weighed (l.i + 1) (drop l.i l.contents)) × (l.sum ≤ 1280 * l.i)
