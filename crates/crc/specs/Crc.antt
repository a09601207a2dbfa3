-- CRC-32/ISO-HDLC (R6.3).
use Rattle.std.specs.Prelude.{List, [], ◌∷◌, ℕ, zero, suc, ◌*◌, ◌/◌, ◌%◌}
use Rattle.std.specs.Int.Bits.{bit_xor}

-- one bit: the register moves right, and the bit that falls out picks the reflected polynomial
unfoldable pub bit : ℕ → ℕ
bit c = bit_xor (c / 2) (c % 2 * 0xEDB88320)

-- n bits
unfoldable pub bits : ℕ → ℕ → ℕ
bits zero c = c
bits (suc n) c = bit (bits n c)

-- one byte
unfoldable pub byte : ℕ → ℕ → ℕ
byte c b = bits 8 (bit_xor c b)

-- all bytes, from the register c on
unfoldable pub through : ℕ → List ℕ → ℕ
through c [] = c
through c (b ∷ bs) = through (byte c b) bs

-- the register is FFFFFFFF at first, and inverted at the end (R6.3)
unfoldable pub crc32 : List ℕ → ℕ
crc32 bs = bit_xor (through 0xFFFFFFFF bs) 0xFFFFFFFF
