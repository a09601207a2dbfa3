-- What a reader of an auth payload refuses has no place. Assumes nothing.
use Prim.Native.Nat.{ℕ}
use mathlib.Core.List.{List}
use Rattle.wire.specs.declared.Refusal.TheVariants.{OutOfRange}
use Rattle.wire.proofs.Placeless.{Placeless, placeless_done, placeless_then, placeless}
use Rattle.cbor.specs.Item.{one_at, string_field_at, number_field_at}
use Rattle.wire.specs.Ascii.{ascii}
use Rattle.cbor.proofs.Placeless.{one_placeless, string_field_placeless, number_field_placeless}
use Rattle.auth.specs.Auth.{claim_at, auth_at}

pub claim_placeless : (s : List ℕ) (map : ℕ) → Placeless (claim_at s map)
unfolding claim_at
claim_placeless s map =
    placeless_then (one_at s 0 map) _ (one_placeless s 0 map) (λ (_, at).
    placeless_then (string_field_at s at (ascii "pub") 2 32 32 19) _ (string_field_placeless s at (ascii "pub") 2 32 32 OutOfRange) (λ (_, a).
    placeless_then (string_field_at s a (ascii "sig") 2 64 64 19) _ (string_field_placeless s a (ascii "sig") 2 64 64 OutOfRange) (λ (_, b).
    placeless_then (string_field_at s b (ascii "hash") 2 32 32 19) _ (string_field_placeless s b (ascii "hash") 2 32 32 OutOfRange) (λ v. placeless_done _))))

pub auth_placeless : (s : List ℕ) → Placeless (auth_at s)
unfolding auth_at
auth_placeless s =
    placeless_then (claim_at s 0xA4) _ (claim_placeless s 0xA4) (λ (_, a).
    placeless_then (number_field_at s a (ascii "version") 1 1) _ (number_field_placeless s a (ascii "version") 1 1) (λ v. search placeless))
