-- How long the payload and the signed bytes are. Assumes nothing.
use mathlib.Core.Path.{◌≡◌}
use mathlib.Core.List.{List, ◌++◌}
use native.Mathlib.Omega.{arith}
use lib.ListN.{length, length-append}
use Rattle.cbor.specs.Form.{string_field_of, number_field_of}
use Rattle.wire.specs.Ascii.{ascii}
use Rattle.cbor.proofs.Sizes.{length_field_two, length_number_field_one}
use Rattle.auth.specs.Auth.{auth_of, signed_of}
use Prim.Native.Nat.{ℕ}

pub auth_length : (public sig hash : List ℕ) → length public ≡ 32 → length sig ≡ 64 → length hash ≡ 32 → length (auth_of public sig hash) ≡ 157
unfolding auth_of
auth_length public sig hash p g h =
    let P : List ℕ = string_field_of (ascii "pub") 2 public in
    let G : List ℕ = string_field_of (ascii "sig") 2 sig in
    let H : List ℕ = string_field_of (ascii "hash") 2 hash in
    let N : List ℕ = number_field_of (ascii "version") 1 in
    omega (
      arith,
      length-append P (G ++ (H ++ N)),
      length-append G (H ++ N),
      length-append H N,
      length_field_two (ascii "pub") 2 public (omega arith) (omega arith) (omega arith),
      length_field_two (ascii "sig") 2 sig (omega arith) (omega arith) (omega arith),
      length_field_two (ascii "hash") 2 hash (omega arith) (omega arith) (omega arith),
      length_number_field_one (ascii "version") 1 (omega arith) (omega arith),
    )

pub signed_length : (public hash : List ℕ) → length public ≡ 32 → length hash ≡ 32 → length (signed_of public hash) ≡ 104
unfolding signed_of
signed_length public hash p h =
    let P : List ℕ = string_field_of (ascii "pub") 2 public in
    let H : List ℕ = string_field_of (ascii "hash") 2 hash in
    let N : List ℕ = number_field_of (ascii "version") 1 in
    omega (
      arith,
      length-append P (H ++ N),
      length-append H N,
      length_field_two (ascii "pub") 2 public (omega arith) (omega arith) (omega arith),
      length_field_two (ascii "hash") 2 hash (omega arith) (omega arith) (omega arith),
      length_number_field_one (ascii "version") 1 (omega arith) (omega arith),
    )
