use Rattle.std.proofs.Common.{refl, arith, length-set, rules}
use Rattle.blake2b.specs.Blake2b.{vector, fold}
use Rattle.blake2b.proofs.Vector.{vector_more, vector_whole}
use Rattle.blake2b.proofs.fold.Invariants.{xored}
use Rattle.blake2b.proofs.fold.Goals as goal

pub loop-i-init : goal.loop-i-init
unfolding vector
loop-i-init c = (refl, refl)

pub loop-i-preserved : goal.loop-i-preserved
loop-i-preserved c =
    let a = c.args in (
      simp length-set (search rules),
      vector_more (xored a.h a.v.now) c.loop-i.x c.loop-i.i _ (omega arith) c.loop-i.invariant.1 refl,
    )

pub returns : goal.returns
unfolding fold
returns c =
    let l = c.loop-i in
    let a = c.args in
    vector_whole (xored a.h a.v.now) l.x 8 l.i l.invariant.0 (omega arith) l.invariant.1
