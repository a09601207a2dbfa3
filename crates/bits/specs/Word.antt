-- Words of w bits as FIPS 180-4 (section 3.2) and RFC 7693 (section 2.3) write them, over the
-- width.
use Rattle.std.specs.Prelude.{ℕ, ◌+◌, ◌-◌, ◌*◌, ◌/◌, ◌%◌, ◌^◌}
use Rattle.std.specs.Int.Bits.{bit_or}

-- addition modulo 2^w
unfoldable pub plus : ℕ → ℕ → ℕ → ℕ
plus w x y = (x + y) % 2 ^ w

-- ROTR^n(x) = (x >> n) | (x << (w - n))
unfoldable pub rotr : ℕ → ℕ → ℕ → ℕ
rotr w n x = bit_or (x / 2 ^ n) (x * 2 ^ (w - n) % 2 ^ w)
