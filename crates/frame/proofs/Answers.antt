-- The answer of `read` says no more than its number and values do. Assumes nothing.
use Prim.Native.Nat.{ℕ}
use mathlib.Core.Path.{◌≡◌, refl, ap}
use native.Mathlib.Omega.{arith}
use Rattle.std.specs.Prelude.{Result, Ok, Err}
use Rattle.wire.specs.declared.Refusal.{Refusal}
use Rattle.wire.specs.declared.Span.{Span}
use Rattle.wire.proofs.Answers.{number_injective}
use Rattle.wire.proofs.Cases.{got_value}
use Rattle.frame.specs.Frame as F
use Rattle.frame.specs.Kind.{type_byte}
use Rattle.frame.specs.Answer.{seen, told}
use Rattle.frame.specs.declared.Frame.{Frame}
use Rattle.frame.specs.declared.Kind.{Kind}
use Rattle.frame.specs.declared.Kind.TheVariants as kind

-- a type is its byte
pub type_injective : (k j : Kind) → type_byte k ≡ type_byte j → k ≡ j
type_injective kind.Main kind.Main e = refl
type_injective kind.Key kind.Key e = refl
type_injective kind.Auth kind.Auth e = refl
type_injective kind.Main kind.Key e = absurd (omega arith)
type_injective kind.Main kind.Auth e = absurd (omega arith)
type_injective kind.Key kind.Main e = absurd (omega arith)
type_injective kind.Key kind.Auth e = absurd (omega arith)
type_injective kind.Auth kind.Main e = absurd (omega arith)
type_injective kind.Auth kind.Key e = absurd (omega arith)

made : Kind → ℕ → ℕ → Span → Frame
made k i t a = record { kind = k; index = i; total = t; at = a }

seen_injective : (f g : Frame) → seen f ≡ seen g → f ≡ g
unfolding made
seen_injective f g p =
    let pk : f.kind ≡ g.kind = type_injective f.kind g.kind (ap (λ (x : F.Frame). x.kind) p) in
    let pi : f.index ≡ g.index = ap (λ (x : F.Frame). x.index) p in
    let pt : f.total ≡ g.total = ap (λ (x : F.Frame). x.total) p in
    let pd : f.at ≡ g.at = ap (λ (x : F.Frame). x.at) p in
    let e : made f.kind f.index f.total f.at ≡ made g.kind g.index g.total g.at = cc in
    e

-- the answer says no more than its number and values do
pub told_injective : (r q : Result Frame Refusal) → told r ≡ told q → r ≡ q
told_injective (Ok f) (Ok g) e = ap Ok (seen_injective f g (got_value e))
told_injective (Ok f) (Err n) e = cc
told_injective (Err m) (Ok g) e = cc
told_injective (Err m) (Err n) e = ap Err (number_injective m n cc)
