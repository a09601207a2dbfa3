-- FIPS 180-4, sections 5.1.1 and 5.2.1: the message padded, and parsed into blocks of sixteen
-- words.
use Rattle.std.specs.Prelude.{ℕ, ◌-◌, ◌*◌, ◌%◌, List, ◌∷◌, ◌++◌, length, take, drop, replicate}
use Rattle.wire.specs.Number.{number, big_endian}

-- the fewest zero bytes that leave eight bytes to a multiple of 64, behind n bytes and the mark
unfoldable pub zeros : ℕ → ℕ
zeros n = (119 - n % 64) % 64

-- the message, a bit 1, zeros, and the message's length in bits: the lowest 64 bits of it, where it
-- has more (R14.5)
unfoldable pub pad : List ℕ → List ℕ
pad bs = bs ++ (0x80 ∷ (replicate (zeros (length bs)) 0 ++ big_endian 8 (length bs * 8)))

-- block n, counted from 0
unfoldable pub block : ℕ → List ℕ → List ℕ
block n bs = take 64 (drop (n * 64) bs)

-- word t of a block, its highest byte first
unfoldable pub word : ℕ → List ℕ → ℕ
word t m = number 256 (take 4 (drop (t * 4) m))
