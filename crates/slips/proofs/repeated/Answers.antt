use mathlib.Core.Path.{refl}
use native.Mathlib.Omega.{arith}
use Rattle.slips.proofs.Repeats.{repeating_none, repeat_found, repeating_on, repeat_none}
use Rattle.slips.proofs.repeated.Goals as goal

pub loop-j-init : goal.loop-j-init
loop-j-init c = repeating_none _

pub returns-in-Some : goal.returns-in-Some
returns-in-Some c =
    let found = repeat_found _ _ c.loop-j.invariant c.loop-j-test.true _ refl _ c.in-Some.ensures in
    grind (arith, found)

pub loop-j-preserved : goal.loop-j-preserved
loop-j-preserved c = repeating_on _ _ c.loop-j.invariant c.loop-j-test.true _ refl c.in_default.ensures

pub returns : goal.returns
returns c = search repeat_none
