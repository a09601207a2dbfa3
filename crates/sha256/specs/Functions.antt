-- FIPS 180-4, section 4.1.2: the six functions of SHA-256, each on words of 32 bits.
use Rattle.std.specs.Prelude.{ℕ, ◌-◌, ◌/◌, ◌^◌}
use Rattle.std.specs.Int.Bits.{bit_and, bit_xor}
use Rattle.bits.specs.Word.{rotr}

-- Ch(x, y, z) = (x ∧ y) ⊕ (¬x ∧ z)
unfoldable pub ch : ℕ → ℕ → ℕ → ℕ
ch x y z = bit_xor (bit_and x y) (bit_and (2 ^ 32 - 1 - x) z)

-- Maj(x, y, z) = (x ∧ y) ⊕ (x ∧ z) ⊕ (y ∧ z)
unfoldable pub maj : ℕ → ℕ → ℕ → ℕ
maj x y z = bit_xor (bit_xor (bit_and x y) (bit_and x z)) (bit_and y z)

-- Σ0(x) = ROTR 2 (x) ⊕ ROTR 13 (x) ⊕ ROTR 22 (x)
unfoldable pub Σ0 : ℕ → ℕ
Σ0 x = bit_xor (bit_xor (rotr 32 2 x) (rotr 32 13 x)) (rotr 32 22 x)

-- Σ1(x) = ROTR 6 (x) ⊕ ROTR 11 (x) ⊕ ROTR 25 (x)
unfoldable pub Σ1 : ℕ → ℕ
Σ1 x = bit_xor (bit_xor (rotr 32 6 x) (rotr 32 11 x)) (rotr 32 25 x)

-- σ0(x) = ROTR 7 (x) ⊕ ROTR 18 (x) ⊕ SHR 3 (x)
unfoldable pub σ0 : ℕ → ℕ
σ0 x = bit_xor (bit_xor (rotr 32 7 x) (rotr 32 18 x)) (x / 2 ^ 3)

-- σ1(x) = ROTR 17 (x) ⊕ ROTR 19 (x) ⊕ SHR 10 (x)
unfoldable pub σ1 : ℕ → ℕ
σ1 x = bit_xor (bit_xor (rotr 32 17 x) (rotr 32 19 x)) (x / 2 ^ 10)
