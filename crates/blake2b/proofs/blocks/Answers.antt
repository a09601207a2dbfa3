use Rattle.std.proofs.Common.{◌≡◌, ◌/◌, length, refl, arith}
use Rattle.blake2b.specs.Blake2b.{blocks}
use Rattle.blake2b.proofs.Reading.{blocks_more}
use Rattle.blake2b.proofs.blocks.Goals as goal

pub loop-k-init : goal.loop-k-init
unfolding blocks
loop-k-init c = refl

pub loop-k-preserved : goal.loop-k-preserved
loop-k-preserved c =
    let l = c.loop-k in
    blocks_more c.args.s.now _ _ l.k c.args.h l.x _ c.as_chunks.ensures.front (omega (arith, c.as_chunks.ensures.front_len)) l.invariant c.absorb-y.ensures

pub returns : goal.returns
returns c =
    let l = c.loop-k in
    let e : l.k ≡ length c.args.s.now / 128 = omega (arith, c.as_chunks.ensures.front_len) in
    rw e at l.invariant
