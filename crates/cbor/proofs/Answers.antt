-- What a reader answers is fixed by its contract, and how a chain of items goes on from it.
-- Assumes nothing.
use Prim.Native.Nat.{ℕ}
use mathlib.Core.Path.{◌≡◌, sym, ap, ◌∙◌}
use mathlib.Core.Bool.{true, false}
use borrow.Author.Tests.{eq-eqb, ne_eqb}
use lib.Dec.{eqb}
use Rattle.std.specs.Prelude.{Result, Ok, Err}
use Rattle.std.specs.Result.{IsErr, IsErrAnd}
use Rattle.std.proofs.lemmas.Result.{err_from_is_err_and}
use Rattle.wire.specs.Answer.{Answer, refused}
use Rattle.wire.specs.Reading.{told, told_by}
use Rattle.wire.specs.Refusal.{number}
use Rattle.wire.specs.declared.Refusal.{Refusal}
use Rattle.wire.specs.declared.Span.{Span}
use Rattle.wire.proofs.Cases.{done_value}
use Rattle.cbor.specs.declared.Head.{Head}
use Rattle.wire.proofs.Answers.{told_injective, err_is, reads}

-- ---- an answer says no more than its number and values do

-- by whatever numbers, if each leads to one fault (trait `Fault`)
pub told_by_injective : {A E : Type 0} (n : E → ℕ) → ((x y : E) → n x ≡ n y → x ≡ y) → (r q : Result A E) → told_by n r ≡ told_by n q → r ≡ q
told_by_injective n one (Ok a) (Ok b) e = ap Ok (done_value e)
told_by_injective n one (Ok a) (Err k) e = cc
told_by_injective n one (Err j) (Ok b) e = cc
told_by_injective n one (Err j) (Err k) e = ap Err (one j k cc)

-- ---- a reader that is told what to refuse with (trait `Fault`)

-- what `?` hands out of its own kind
pub handed_own : {A E : Type 0} (n : E → ℕ) (r : Result A E) (e : E) → IsErr r × IsErrAnd r (λ x. x ≡ e) → (y : Answer A) → refused (n e) ≡ y → told_by n r ≡ y
handed_own n r e h y q = rw (err_is r e h) q

module _ {A E : Type 0} (n : E → ℕ) (gives : Refusal → E → Type 0) (law : (r : Refusal) (e : E) → gives r e → n e ≡ number r) where
  -- and where it makes it of a refusal: the number stays
  pub handed_fault : (r : Result A E) (e : Refusal) → IsErr r × IsErrAnd r (gives e) → (y : Answer A) → refused (number e) ≡ y → told_by n r ≡ y
  handed_fault r e (h, k) y q = let p = err_from_is_err_and r k in rw (p.1, law e p.0 p.2) q

-- told to refuse with a refusal, it answers as the other readers do
pub told_as : {A : Type 0} (r : Result A Refusal) (y : Answer A) → told_by number r ≡ y → told r ≡ y
told_as (Ok a) y e = e
told_as (Err k) y e = e

-- ---- a call answered a number, x by its contract, and a test said whether it is k

pub answered : (r x k : ℕ) → r ≡ x → r ≡ k → eqb x k ≡ true
answered r x k e h = eq-eqb x k (sym e ∙ h)

pub differed : (r x k : ℕ) → r ≡ x → (r ≡ k → ⊥) → eqb x k ≡ false
differed r x k e h = ne_eqb x k (λ (q : x ≡ k). h (e ∙ q))

pub ruleset chain = (reads, told_as)
