-- `told::words::advice` meets its contract. Assumes nothing.
use mathlib.Core.Path.{◌≡◌, ap}
use native.Mathlib.Omega.{arith}
use Rattle.wire.proofs.Branch.{branch, tests}
use Rattle.told.specs.Words.{advice}
use Rattle.told.proofs.Speech.{written_as}
use Rattle.told.proofs.words.advice.Goals as goal

pub returns-in-0 : goal.returns-in-0
unfolding advice
returns-in-0 c = search (written_as, branch, tests) depth 14

pub returns-in-11 : goal.returns-in-11
unfolding advice
returns-in-11 c =
    let e : c.args.no ≡ 11 = omega arith in
    written_as _ _ _ _ _ (ap advice e) c.give-in-11.ensures

pub returns-in-13 : goal.returns-in-13
unfolding advice
returns-in-13 c =
    let e : c.args.no ≡ 13 = omega arith in
    written_as _ _ _ _ _ (ap advice e) c.give-in-13.ensures

pub returns-in-14 : goal.returns-in-14
unfolding advice
returns-in-14 c =
    let e : c.args.no ≡ 14 = omega arith in
    written_as _ _ _ _ _ (ap advice e) c.give-in-14.ensures

pub returns-in-15 : goal.returns-in-15
unfolding advice
returns-in-15 c =
    let e : c.args.no ≡ 15 = omega arith in
    written_as _ _ _ _ _ (ap advice e) c.give-in-15.ensures

pub returns-in-16 : goal.returns-in-16
unfolding advice
returns-in-16 c =
    let e : c.args.no ≡ 16 = omega arith in
    written_as _ _ _ _ _ (ap advice e) c.give-in-16.ensures

pub returns-in-17 : goal.returns-in-17
unfolding advice
returns-in-17 c =
    let e : c.args.no ≡ 17 = omega arith in
    written_as _ _ _ _ _ (ap advice e) c.give-in-17.ensures

pub returns-in_default : goal.returns-in_default
unfolding advice
returns-in_default c = search (written_as, branch, tests) depth 14
