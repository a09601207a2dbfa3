use mathlib.Core.Path.{◌≡◌, refl}
use native.Mathlib.Numerals.{add-one}
use native.Mathlib.Omega.{arith}
use Rattle.sha256.specs.Sha.{rounds}
use Rattle.sha256.proofs.rounds.Goals as goal

pub loop-t-init : goal.loop-t-init
unfolding rounds
loop-t-init c = refl

pub loop-t-preserved : goal.loop-t-preserved
unfolding rounds
loop-t-preserved c = rw add-one (cc)

pub returns : goal.returns
returns c =
    let e : c.loop-t.t ≡ 64 = omega arith in
    cc
