-- A checksum has 32 bits, so four bytes hold it. Assumes nothing.
use mathlib.Core.List.{List, [], ◌∷◌}
use Prim.Native.Nat.{ℕ, zero, suc, ◌*◌, ◌/◌, ◌%◌, ◌^◌, ◌<◌}
use native.Mathlib.Omega.{arith}
use lib.Bits.{bit_xor, xor_lt}
use lib.Dec.{lit<}
use Rattle.wire.specs.Number.{Bytes}
use Rattle.crc.specs.Crc.{bit, bits, byte, through, crc32}

bit_lt : (c : ℕ) → c < 2 ^ 32 → bit c < 2 ^ 32
unfolding bit
bit_lt c h = xor_lt 32 (c / 2) (c % 2 * 0xEDB88320) (omega arith) (omega arith)

bits_lt : (n c : ℕ) → c < 2 ^ 32 → bits n c < 2 ^ 32
unfolding bits
bits_lt zero c h = h
bits_lt (suc n) c h = bit_lt (bits n c) (bits_lt n c h)

through_lt : (bs : List ℕ) (c : ℕ) → Bytes bs → c < 2 ^ 32 → through c bs < 2 ^ 32
unfolding through byte
through_lt [] c b h = h
through_lt (x ∷ bs) c b h =
    let w : x < 2 ^ 32 = omega (arith, b 0) in
    through_lt bs (byte c x) (λ i. b (suc i)) (bits_lt 8 (bit_xor c x) (xor_lt 32 c x h w))

-- For the reader: so the four bytes that a frame and a block hold of it lose nothing
pub crc32_lt : (bs : List ℕ) → Bytes bs → crc32 bs < 2 ^ 32
unfolding crc32
crc32_lt bs b = xor_lt 32 (through 0xFFFFFFFF bs) 0xFFFFFFFF (through_lt bs 0xFFFFFFFF b (lit< tt)) (lit< tt)
