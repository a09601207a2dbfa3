use mathlib.Core.Path.{◌≡◌, refl}
use Prim.Native.Nat.{◌/◌}
use native.Mathlib.Omega.{arith}
use lib.ListN.{length}
use Rattle.sha256.specs.Sha.{blocks}
use Rattle.sha256.proofs.Message.{blocks_more}
use Rattle.sha256.proofs.blocks.Goals as goal

pub loop-b-init : goal.loop-b-init
unfolding blocks
loop-b-init c = refl

pub loop-b-preserved : goal.loop-b-preserved
loop-b-preserved c =
    let l = c.loop-b in
    blocks_more c.args.s.now _ _ _ l.b-index c.args.first l.x _ c.as_chunks.ensures.front (omega (arith, c.as_chunks.ensures.front_len)) l.invariant c.compress-x.ensures

pub returns : goal.returns
returns c =
    let l = c.loop-b in
    let e : l.b-index ≡ length c.args.s.now / 64 = omega (arith, c.as_chunks.ensures.front_len) in
    rw e at l.invariant
