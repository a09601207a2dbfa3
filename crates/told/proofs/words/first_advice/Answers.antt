-- `told::words::first_advice` meets its contract. Assumes nothing.
use mathlib.Core.Path.{◌≡◌, ap}
use native.Mathlib.Omega.{arith}
use Rattle.wire.proofs.Branch.{branch, tests}
use Rattle.told.specs.Words.{first_advice}
use Rattle.told.proofs.Speech.{written_as}
use Rattle.told.proofs.words.first_advice.Goals as goal

pub returns-in-0 : goal.returns-in-0
unfolding first_advice
returns-in-0 c = search (written_as, branch, tests) depth 14

pub returns-in-1 : goal.returns-in-1
unfolding first_advice
returns-in-1 c =
    let e : c.args.fault ≡ 1 = omega arith in
    written_as _ _ _ _ _ (ap first_advice e) c.give-in-1.ensures

pub returns-in-2 : goal.returns-in-2
unfolding first_advice
returns-in-2 c =
    let e : c.args.fault ≡ 2 = omega arith in
    written_as _ _ _ _ _ (ap first_advice e) c.give-in-2.ensures

pub returns-in-3 : goal.returns-in-3
unfolding first_advice
returns-in-3 c =
    let e : c.args.fault ≡ 3 = omega arith in
    written_as _ _ _ _ _ (ap first_advice e) c.give-in-3.ensures

pub returns-in-4 : goal.returns-in-4
unfolding first_advice
returns-in-4 c =
    let e : c.args.fault ≡ 4 = omega arith in
    written_as _ _ _ _ _ (ap first_advice e) c.give-in-4.ensures

pub returns-in-5 : goal.returns-in-5
unfolding first_advice
returns-in-5 c =
    let e : c.args.fault ≡ 5 = omega arith in
    written_as _ _ _ _ _ (ap first_advice e) c.give-in-5.ensures

pub returns-in_default : goal.returns-in_default
unfolding first_advice
returns-in_default c = search (written_as, branch, tests) depth 14
