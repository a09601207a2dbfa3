-- For `search`: a test whose answer is known picks its case of `choose`, also under `then`, and an
-- answer that is known its step of a chain. Assumes nothing.
use mathlib.Core.Path.{◌≡◌}
use mathlib.Core.Bool.{Bool, true, false, ◌&&◌, ◌||◌}
use borrow.Author.Tests.{lt-ltb, le-ltb, le-leb, lt-leb, eq-eqb, ne_eqb, not-true, not-false}
use Rattle.wire.specs.Answer.{choose, Answer, then}
use Rattle.wire.proofs.Cases.{flag, got_both}

module _ {A : Type 0} (t : Bool) (r a b : A) where
  pub choose_yes : t ≡ true → r ≡ a → r ≡ choose t a b
  choose_yes e h = rw e h

  pub choose_no : t ≡ false → r ≡ b → r ≡ choose t a b
  choose_no e h = rw e h

module _ {A B : Type 0} (t : Bool) (r : Answer B) (a b : Answer A) (f : A → Answer B) where
  pub then_yes : t ≡ true → r ≡ then a f → r ≡ then (choose t a b) f
  then_yes e h = rw e h

  pub then_no : t ≡ false → r ≡ then b f → r ≡ then (choose t a b) f
  then_no e h = rw e h

-- a test that decides a conjunction or an alternative, or leaves it to the other test
pub and_on : (t u r : Bool) → t ≡ true → r ≡ u → r ≡ (t && u)
and_on t u r e h = rw e h

pub and_off : (t u : Bool) → t ≡ false → false ≡ (t && u)
and_off t u e = rw e

pub or_on : (t u : Bool) → t ≡ true → true ≡ (t || u)
or_on t u e = rw e

pub or_off : (t u r : Bool) → t ≡ false → r ≡ u → r ≡ (t || u)
or_off t u r e h = rw e h

pub ruleset tests = (and_on, and_off, or_on, or_off, flag, not-true, not-false, le-leb, lt-leb, eq-eqb, ne_eqb)

pub ruleset branch = (choose_yes, choose_no, then_yes, then_no, got_both, lt-ltb, le-ltb, le-leb, lt-leb, eq-eqb, ne_eqb)
