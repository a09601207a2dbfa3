-- The answer of `read` says no more than its number and values do, and what `?` hands out of it.
-- Assumes nothing.
use Prim.Native.Nat.{ℕ}
use mathlib.Core.Path.{◌≡◌, refl, ap}
use Rattle.std.specs.Prelude.{Result, Ok, Err}
use Rattle.std.specs.Result.{IsErr, IsErrAnd}
use Rattle.wire.specs.Answer.{Got, refused}
use Rattle.wire.specs.Refusal.{number}
use Rattle.wire.specs.declared.Refusal.{Refusal}
use Rattle.wire.proofs.Answers.{number_injective, handed_by}
use Rattle.wire.proofs.Cases.{got_value, got_next}
use Rattle.shard.specs.Shard.{Shard}
use Rattle.shard.specs.Answer.{shard_told}
use Rattle.shard.specs.declared.Content.{Content}
use Rattle.shard.specs.declared.Quorum.{Quorum}
use Rattle.shard.specs.declared.Shard as declared

made : (public sig hash : ℕ) (content : Content) (quorum : Quorum) (next : ℕ) → Result declared.Shard Refusal
made public sig hash content quorum next =
    Ok (record { public = public; sig = sig; hash = hash; content = content; quorum = quorum; next = next })

-- an answer says no more than its number and values do
pub shard_injective : (r q : Result declared.Shard Refusal) → shard_told r ≡ shard_told q → r ≡ q
unfolding made
shard_injective (Ok r) (Ok q) e =
    let v = got_value e in
    let a : r.public ≡ q.public = ap (λ (k : Shard). k.claim.public) v in
    let b : r.sig ≡ q.sig = ap (λ (k : Shard). k.claim.sig) v in
    let c : r.hash ≡ q.hash = ap (λ (k : Shard). k.claim.hash) v in
    let d : r.content ≡ q.content = ap (λ (k : Shard). k.content) v in
    let f : r.quorum ≡ q.quorum = ap (λ (k : Shard). k.quorum) v in
    let n : r.next ≡ q.next = got_next e in
    let z : made r.public r.sig r.hash r.content r.quorum r.next ≡ made q.public q.sig q.hash q.content q.quorum q.next = cc in
    z
shard_injective (Ok r) (Err n) e = cc
shard_injective (Err m) (Ok q) e = cc
shard_injective (Err m) (Err n) e = ap Err (number_injective m n cc)

pub handed_shard : (r : Result declared.Shard Refusal) (e : Refusal) → IsErr r × IsErrAnd r (λ x. x ≡ e) → (y : Got Shard) → refused (number e) ≡ y → shard_told r ≡ y
handed_shard = handed_by shard_told (λ e. refl)
