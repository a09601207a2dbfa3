-- The answer of `read` says no more than its number and values do, and how a caller goes on from
-- it. Assumes nothing.
use mathlib.Core.Path.{◌≡◌, refl, ap}
use Rattle.std.specs.Prelude.{Result, Ok, Err}
use Rattle.std.specs.Result.{IsErr, IsErrAnd}
use Rattle.wire.specs.Answer.{Got, refused}
use Rattle.wire.specs.Refusal.{number}
use Rattle.wire.specs.declared.Refusal.{Refusal}
use Rattle.wire.proofs.Answers.{number_injective, handed_by, reads}
use Rattle.wire.proofs.Cases.{got_value}
use Rattle.cover.specs.Cover.{Cover}
use Rattle.cover.specs.Answer.{told}

-- the answer says no more than its number and values do
pub told_injective : (r q : Result Cover Refusal) → told r ≡ told q → r ≡ q
told_injective (Ok c) (Ok d) e = ap Ok (got_value e)
told_injective (Ok c) (Err n) e = cc
told_injective (Err m) (Ok d) e = cc
told_injective (Err m) (Err n) e = ap Err (number_injective m n cc)

-- what `?` hands out in `read`
pub handed_cover : (r : Result Cover Refusal) (e : Refusal) → IsErr r × IsErrAnd r (λ x. x ≡ e) → (y : Got Cover) → refused (number e) ≡ y → told r ≡ y
handed_cover = handed_by told (λ e. refl)

pub ruleset chain = (reads, handed_cover)
