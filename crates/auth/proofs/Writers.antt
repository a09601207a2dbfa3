-- What the two writers do, over plain lists: each judgement, and the run of writes.
-- Assumes nothing.
use Prim.Native.Nat.{ℕ, ◌+◌, ◌≤◌, ◌<◌}
use mathlib.Core.Path.{◌≡◌, sym}
use mathlib.Core.List.{List, [], ◌∷◌}
use native.Mathlib.Omega.{arith}
use borrow.Author.Tests.{eq-eqb, ne_eqb}
use lib.ListN.{length}
use Rattle.std.specs.Prelude.{Ok, Err}
use Rattle.wire.specs.Over.{over}
use Rattle.wire.specs.Writing.{Written}
use Rattle.wire.specs.declared.Refusal.TheVariants.{OutOfRange, NoRoom}
use Rattle.wire.proofs.Writes.{written, no_room, denied}
use Rattle.cbor.specs.Form.{string_field_of, number_field_of}
use Rattle.wire.specs.Ascii.{ascii}
use Rattle.cbor.specs.Put.{Put}
use Rattle.cbor.proofs.Runs.{left_all, left_on, left_last}
use Rattle.auth.specs.Auth.{auth_of, auth_verdict, auth_domain, signed_of, signed_verdict}
use Rattle.auth.proofs.Lengths.{auth_length, signed_length}
use Rattle.auth.proofs.Verdicts.{auth_accepted, signed_accepted}

module _ (public sig hash x : List ℕ) where
  pub auth_public : (length public ≡ 32 → ⊥) → Written 0 (auth_verdict public sig hash) x x (Err OutOfRange)
  unfolding auth_verdict
  auth_public p = rw (ne_eqb (length public) 32 p) (denied 0 x OutOfRange)

  module _ (p : length public ≡ 32) where
    pub auth_sig : (length sig ≡ 64 → ⊥) → Written 0 (auth_verdict public sig hash) x x (Err OutOfRange)
    unfolding auth_verdict
    auth_sig g = rw (eq-eqb (length public) 32 p, ne_eqb (length sig) 64 g) (denied 0 x OutOfRange)

    module _ (g : length sig ≡ 64) where
      pub auth_hash : (length hash ≡ 32 → ⊥) → Written 0 (auth_verdict public sig hash) x x (Err OutOfRange)
      unfolding auth_verdict
      auth_hash h = rw (eq-eqb (length public) 32 p, eq-eqb (length sig) 64 g, ne_eqb (length hash) 32 h) (denied 0 x OutOfRange)

      module _ (h : length hash ≡ 32) where
        pub auth_short : length x < 157 → Written 0 (auth_verdict public sig hash) x x (Err NoRoom)
        auth_short l = rw (auth_accepted public sig hash p g h) (no_room 0 x (auth_of public sig hash) (omega (arith, auth_length public sig hash p g h)))

        pub auth_fits : 157 ≤ length x → length (auth_of public sig hash) ≤ length x
        auth_fits l = omega (arith, auth_length public sig hash p g h)

        pub auth_done : (z : List ℕ) → 157 ≤ length x → z ≡ over 0 (auth_of public sig hash) x → Written 0 (auth_verdict public sig hash) x z (Ok 157)
        auth_done z l o =
            let n = auth_length public sig hash p g h in
            rw (auth_accepted public sig hash p g h) (written 0 x (auth_of public sig hash) z 157 (omega arith) (sym n) o)

  pub auth_run : length (auth_of public sig hash) ≤ length x → (a b c d e : ℕ) (x₁ x₂ x₃ x₄ z : List ℕ) → Put 0 (0xA4 ∷ []) x x₁ a
      → Put a (string_field_of (ascii "pub") 2 public) x₁ x₂ b → Put b (string_field_of (ascii "sig") 2 sig) x₂ x₃ c → Put c (string_field_of (ascii "hash") 2 hash) x₃ x₄ d
      → Put d (number_field_of (ascii "version") 1) x₄ z e → z ≡ over 0 (auth_of public sig hash) x
  unfolding auth_of
  auth_run l a b c d e x₁ x₂ x₃ x₄ z w₁ w₂ w₃ w₄ w₅ =
      let k : 0 + length (auth_of public sig hash) ≤ length x = omega arith in
      (left_last k (left_on (left_on (left_on (left_on (left_all 0 (auth_of public sig hash) x k) w₁) w₂) w₃) w₄) w₅).output

module _ (public hash x : List ℕ) where
  pub signed_public : (length public ≡ 32 → ⊥) → Written 0 (signed_verdict public hash) x x (Err OutOfRange)
  unfolding signed_verdict
  signed_public p = rw (ne_eqb (length public) 32 p) (denied 0 x OutOfRange)

  module _ (p : length public ≡ 32) where
    pub signed_hash : (length hash ≡ 32 → ⊥) → Written 0 (signed_verdict public hash) x x (Err OutOfRange)
    unfolding signed_verdict
    signed_hash h = rw (eq-eqb (length public) 32 p, ne_eqb (length hash) 32 h) (denied 0 x OutOfRange)

    module _ (h : length hash ≡ 32) where
      pub signed_short : length x < 104 → Written 0 (signed_verdict public hash) x x (Err NoRoom)
      signed_short l = rw (signed_accepted public hash p h) (no_room 0 x (signed_of public hash) (omega (arith, signed_length public hash p h)))

      pub signed_fits : 104 ≤ length x → length (signed_of public hash) ≤ length x
      signed_fits l = omega (arith, signed_length public hash p h)

      pub signed_done : (z : List ℕ) → 104 ≤ length x → z ≡ over 0 (signed_of public hash) x → Written 0 (signed_verdict public hash) x z (Ok 104)
      signed_done z l o =
          let n = signed_length public hash p h in
          rw (signed_accepted public hash p h) (written 0 x (signed_of public hash) z 104 (omega arith) (sym n) o)

  pub signed_run : length (signed_of public hash) ≤ length x → (a b c d e : ℕ) (x₁ x₂ x₃ x₄ z : List ℕ) → Put 0 auth_domain x x₁ a → Put a (0xA3 ∷ []) x₁ x₂ b
      → Put b (string_field_of (ascii "pub") 2 public) x₂ x₃ c → Put c (string_field_of (ascii "hash") 2 hash) x₃ x₄ d → Put d (number_field_of (ascii "version") 1) x₄ z e
      → z ≡ over 0 (signed_of public hash) x
  unfolding signed_of
  signed_run l a b c d e x₁ x₂ x₃ x₄ z w₁ w₂ w₃ w₄ w₅ =
      let k : 0 + length (signed_of public hash) ≤ length x = omega arith in
      (left_last k (left_on (left_on (left_on (left_on (left_all 0 (signed_of public hash) x k) w₁) w₂) w₃) w₄) w₅).output
