-- What `claim` and `read` answer is fixed by their contracts, and what `?` hands out of them.
-- Assumes nothing.
use Prim.Native.Nat.{ℕ}
use mathlib.Core.Path.{◌≡◌, refl, ap}
use Rattle.std.specs.Prelude.{Result, Ok, Err}
use Rattle.std.specs.Result.{IsErr, IsErrAnd}
use Rattle.wire.specs.Answer.{Got, refused}
use Rattle.wire.specs.Refusal.{number}
use Rattle.wire.specs.declared.Refusal.{Refusal}
use Rattle.wire.proofs.Answers.{number_injective, handed_by}
use Rattle.wire.proofs.Cases.{got_next, got_value}
use Rattle.auth.specs.Auth.{Claim}
use Rattle.auth.specs.Answer.{claim_told}
use Rattle.auth.specs.declared.Claimed as declared

made : (public sig hash next : ℕ) → Result declared.Claimed Refusal
made public sig hash next = Ok (record { public = public; sig = sig; hash = hash; next = next })

-- an answer says no more than its number and values do
pub claim_injective : (r q : Result declared.Claimed Refusal) → claim_told r ≡ claim_told q → r ≡ q
unfolding made
claim_injective (Ok r) (Ok q) e =
    let v : ◌≡◌ {A = Claim} (record { public = r.public; sig = r.sig; hash = r.hash }) (record { public = q.public; sig = q.sig; hash = q.hash }) = got_value e in
    let a : r.public ≡ q.public = ap (λ (w : Claim). w.public) v in
    let b : r.sig ≡ q.sig = ap (λ (w : Claim). w.sig) v in
    let c : r.hash ≡ q.hash = ap (λ (w : Claim). w.hash) v in
    let d : r.next ≡ q.next = got_next e in
    let z : made r.public r.sig r.hash r.next ≡ made q.public q.sig q.hash q.next = cc in
    z
claim_injective (Ok r) (Err n) e = cc
claim_injective (Err m) (Ok q) e = cc
claim_injective (Err m) (Err n) e = ap Err (number_injective m n cc)

pub handed_claim : (r : Result declared.Claimed Refusal) (e : Refusal) → IsErr r × IsErrAnd r (λ x. x ≡ e) → (y : Got Claim) → refused (number e) ≡ y → claim_told r ≡ y
handed_claim = handed_by claim_told (λ e. refl)
