-- `recover::block` meets its contract: its array has room for t points. Assumes nothing.
use Prim.Native.Nat.{ℕ}
use mathlib.Core.Path.{◌≡◌, subst}
use mathlib.Core.List.{List, [], ◌∷◌, map}
use native.Mathlib.Omega.{arith}
use lib.ListN.{replicate}
use lib.Seq.{length-take-le}
use Rattle.curve.specs.Curve.{through_at}
use Rattle.recover.specs.Recover.{points}
use Rattle.recover.specs.Private.{slip_in, fitting, element_in, kept}
use Rattle.recover.specs.declared.newton.Point.{Point}
use Rattle.recover.proofs.block.Goals as goal

pub returns : goal.returns
returns c =
    let a = c.args in
    let curve : List Point = replicate 255 (record { x = 0; d = 0 ∷ 0 ∷ [] }) in
    subst (λ (n : ℕ). element_in c.found.result ≡ kept (fitting n a.k a.slips.now) (through_at n (points a.k (map slip_in a.slips.now)) 0))
    (length-take-le a.t curve (omega arith)) c.found.ensures
