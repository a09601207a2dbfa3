-- Two tests at once, from each of them; the ruleset `tests` lets `search` pick the case of a
-- definition. Assumes nothing.
use mathlib.Core.Path.{◌≡◌, refl}
use mathlib.Core.Bool.{Bool, true, false, ◌&&◌}
use borrow.Author.Tests.{lt-ltb, le-ltb, le-leb, lt-leb, eq-eqb, ne_eqb}
use Rattle.wire.proofs.Branch.{choose_yes, choose_no}

pub hold_both : (t u : Bool) → t ≡ true → u ≡ true → (t && u) ≡ true
hold_both t u d e = rw d e

pub first_fails : (t u : Bool) → t ≡ false → (t && u) ≡ false
first_fails t u e = rw e

pub second_fails : (t u : Bool) → u ≡ false → (t && u) ≡ false
second_fails true u e = e
second_fails false u e = refl

pub and_true : (t : Bool) → (t && true) ≡ t
and_true true = refl
and_true false = refl

pub ruleset tests = (choose_yes, choose_no, hold_both, first_fails, second_fails, lt-ltb, le-ltb, le-leb, lt-leb, eq-eqb, ne_eqb)
