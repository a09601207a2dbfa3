-- What a call answers is fixed by its contract, and how a chain of fields goes on from it.
-- Assumes nothing.
use Prim.Native.Nat.{ℕ}
use mathlib.Core.Path.{◌≡◌, refl, sym, ap, ap₂, ◌∙◌}
use mathlib.Core.List.{List, [], ◌∷◌}
use lib.ListN.{get_or}
use Rattle.std.specs.Prelude.{Result, Ok, Err}
use Rattle.std.specs.Result.{IsErr, IsErrAnd}
use Rattle.std.proofs.lemmas.Result.{err_from_is_err_and}
use Rattle.wire.specs.Answer.{Answer, done, refused, refused_at, then, Got}
use Rattle.wire.specs.Reading.{told, told_at, step_told}
use Rattle.wire.specs.Refusal.{number, Placeless}
use Rattle.wire.specs.declared.Refusal.{Refusal}
use Rattle.wire.specs.declared.Refusal.TheVariants as refusal
use Rattle.wire.specs.declared.RefusedAt.{RefusedAt}
use Rattle.wire.proofs.Cases.{done_value, got_next}
use Rattle.wire.proofs.Branch.{branch}

-- ---- a refusal is its number

-- each number that R2.2 names leads back to its refusal
by_number : List Refusal
by_number = refusal.BadPadding ∷ refusal.BadCharacter ∷ refusal.BadTextLength ∷ refusal.CutOrLeftOver ∷ refusal.BadMagic ∷ refusal.BadVersion ∷ refusal.BadFrameType ∷ refusal.BadVarint ∷ refusal.BadPlace ∷ refusal.TooLarge ∷ refusal.BadChecksum ∷ refusal.NoRoom ∷ refusal.OtherDocument ∷ refusal.BadCollection ∷ refusal.TotalsDisagree ∷ refusal.PageDisputed ∷ refusal.PageMissing ∷ refusal.OtherCiphertext ∷ refusal.NotCanonical ∷ refusal.OutOfRange ∷ refusal.BadPath ∷ refusal.BadContents ∷ refusal.BadPadding ∷ refusal.Mistyped ∷ refusal.BadPadding ∷ refusal.BadPadding ∷ refusal.TooFewSlips ∷ refusal.UnlikeSlips ∷ refusal.SlipTwice ∷ refusal.OffTheCurve ∷ refusal.BadPadding ∷ []

named : ℕ → Refusal
named n = get_or by_number n refusal.BadPadding

named_number : (r : Refusal) → named (number r) ≡ r
unfolding named by_number
named_number refusal.BadCharacter = refl
named_number refusal.BadTextLength = refl
named_number refusal.CutOrLeftOver = refl
named_number refusal.BadMagic = refl
named_number refusal.BadVersion = refl
named_number refusal.BadFrameType = refl
named_number refusal.BadVarint = refl
named_number refusal.BadPlace = refl
named_number refusal.TooLarge = refl
named_number refusal.BadChecksum = refl
named_number refusal.NoRoom = refl
named_number refusal.OtherDocument = refl
named_number refusal.BadCollection = refl
named_number refusal.TotalsDisagree = refl
named_number refusal.PageDisputed = refl
named_number refusal.PageMissing = refl
named_number refusal.OtherCiphertext = refl
named_number refusal.NotCanonical = refl
named_number refusal.OutOfRange = refl
named_number refusal.BadPath = refl
named_number refusal.BadContents = refl
named_number refusal.Mistyped = refl
named_number refusal.TooFewSlips = refl
named_number refusal.UnlikeSlips = refl
named_number refusal.SlipTwice = refl
named_number refusal.OffTheCurve = refl
named_number refusal.BadPadding = refl

pub number_injective : (r q : Refusal) → number r ≡ number q → r ≡ q
number_injective r q e = sym (named_number r) ∙ ap named e ∙ named_number q

-- ---- an answer says no more than its number and value do

pub told_injective : {A : Type 0} (r q : Result A Refusal) → told r ≡ told q → r ≡ q
told_injective (Ok a) (Ok b) e = ap Ok (done_value e)
told_injective (Ok a) (Err n) e = cc
told_injective (Err m) (Ok b) e = cc
told_injective (Err m) (Err n) e = ap Err (number_injective m n cc)

pub step_injective : (r q : Result ℕ Refusal) → step_told r ≡ step_told q → r ≡ q
step_injective (Ok i) (Ok j) e = ap Ok (got_next e)
step_injective (Ok i) (Err n) e = cc
step_injective (Err m) (Ok j) e = cc
step_injective (Err m) (Err n) e = ap Err (number_injective m n cc)

pub told_at_injective : {A : Type 0} (r q : Result A RefusedAt) → told_at r ≡ told_at q → r ≡ q
told_at_injective {A} (Ok a) (Ok b) e = ap Ok (done_value e)
told_at_injective {A} (Ok a) (Err n) e = cc
told_at_injective {A} (Err m) (Ok b) e = cc
told_at_injective {A} (Err m) (Err n) e = ap₂ placed (number_injective m.why n.why cc) cc
  where
    placed : Refusal → ℕ → Result A RefusedAt
    placed w k = Err (record { why = w; place = k })

-- ---- for `search`: one field of a chain, whose contract says g

module _ {A B : Type 0} (g : Answer A) (f : A → Answer B) where
  -- it is done, and the chain goes on
  pub on : (x : A) (y : Answer B) → done x ≡ g → y ≡ f x → y ≡ then g f
  on x y h k = rw (← h) k

  -- it was refused, and so is the chain
  pub off : (e k : ℕ) → refused_at e k ≡ g → refused_at e k ≡ then g f
  off e k h = rw (← h)

-- what `?` hands out: the refusal that it met
pub err_is : {A E : Type 0} (r : Result A E) (e : E) → IsErr r × IsErrAnd r (λ x. x ≡ e) → r ≡ Err e
err_is r e (h, k) = let p = err_from_is_err_and r k in p.1 ∙ ap Err p.2

module _ {A B : Type 0} (t : Result A Refusal → Answer B) (says : (e : Refusal) → t (Err e) ≡ refused (number e)) where
  -- whatever the definition is that tells the answer
  pub handed_by : (r : Result A Refusal) (e : Refusal) → IsErr r × IsErrAnd r (λ x. x ≡ e) → (y : Answer B) → refused (number e) ≡ y → t r ≡ y
  handed_by r e h y k = rw (err_is r e h) (says e ∙ k)

pub handed : {A : Type 0} (r : Result A Refusal) (e : Refusal) → IsErr r × IsErrAnd r (λ x. x ≡ e) → (y : Answer A) → refused (number e) ≡ y → told r ≡ y
handed = handed_by told (λ e. refl)

pub handed_step : (r : Result ℕ Refusal) (e : Refusal) → IsErr r × IsErrAnd r (λ x. x ≡ e) → (y : Got Unit) → refused (number e) ≡ y → step_told r ≡ y
handed_step = handed_by step_told (λ e. refl)

-- the same where `?` makes of it a refusal without a place (R2.3)
pub handed_at : {A : Type 0} (r : Result A RefusedAt) (e : Refusal) → IsErr r × IsErrAnd r (Placeless e) → (y : Answer A) → refused (number e) ≡ y → told_at r ≡ y
handed_at r e (h, k) y q = let p = err_from_is_err_and r k in rw (p.1, p.2.0, p.2.1) q

pub ruleset reads = (branch, on, off, handed, handed_step, handed_at)
