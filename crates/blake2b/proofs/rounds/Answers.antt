use Rattle.std.proofs.Common.{◌≡◌, refl, add-one, arith}
use Rattle.blake2b.specs.Blake2b.{rounds}
use Rattle.blake2b.proofs.rounds.Goals as goal

pub loop-r-init : goal.loop-r-init
unfolding rounds
loop-r-init c = refl

pub loop-r-preserved : goal.loop-r-preserved
unfolding rounds
loop-r-preserved c = rw add-one (cc)

pub returns : goal.returns
returns c =
    let e : c.loop-r.r ≡ 12 = omega arith in
    cc
