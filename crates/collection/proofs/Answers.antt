-- The answers of open, offer and join say no more than a number and its values. Assumes nothing.
use mathlib.Core.Path.{◌≡◌, refl, ap}
use native.Mathlib.Omega.{arith}
use Rattle.std.specs.Prelude.{Result, Ok, Err}
use Rattle.wire.specs.declared.Refusal.{Refusal}
use Rattle.wire.proofs.Answers as answers
use Rattle.wire.proofs.Cases.{done_value}
use Rattle.collection.specs.Answer.{told, told_kind, stands_number}
use Rattle.collection.specs.declared.Stands.{Stands}
use Rattle.collection.specs.declared.Stands.TheVariants as stands

pub told_injective : (r q : Result Unit Refusal) → told r ≡ told q → r ≡ q
told_injective = answers.told_injective

number_one : (s t : Stands) → stands_number s ≡ stands_number t → s ≡ t
number_one stands.Held stands.Held e = refl
number_one stands.Held stands.Disputed e = absurd (omega arith)
number_one stands.Held stands.Disagree e = absurd (omega arith)
number_one stands.Disputed stands.Held e = absurd (omega arith)
number_one stands.Disputed stands.Disputed e = refl
number_one stands.Disputed stands.Disagree e = absurd (omega arith)
number_one stands.Disagree stands.Held e = absurd (omega arith)
number_one stands.Disagree stands.Disputed e = absurd (omega arith)
number_one stands.Disagree stands.Disagree e = refl

-- offer's number of R9.5 says how the page stands
pub kind_injective : (r q : Result Stands Refusal) → told_kind r ≡ told_kind q → r ≡ q
kind_injective (Ok s) (Ok t) e = ap Ok (number_one s t (done_value e))
kind_injective (Ok s) (Err n) e = cc
kind_injective (Err m) (Ok t) e = cc
kind_injective (Err m) (Err n) e = ap Err (answers.number_injective m n cc)
