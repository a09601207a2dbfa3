-- Floating-point numbers of three widths, in whole numbers: R10.8. A magnitude is the bits of one
-- but for its sign: the exponent above, the fraction below.
use Rattle.std.specs.Prelude.{ℕ, zero, suc, ◌+◌, ◌-◌, ◌*◌, ◌/◌, ◌%◌, ◌^◌, Bool, ◌&&◌, ltb, eqb}
use Rattle.wire.specs.Answer.{choose}
use Rattle.cbor.specs.declared.Width.{Width}
use Rattle.cbor.specs.declared.Width.TheVariants.{Half, Single, Double}

-- ---- the three widths (IEEE 754)

unfoldable pub exponent_bits : Width → ℕ
exponent_bits Half = 5
exponent_bits Single = 8
exponent_bits Double = 11

unfoldable pub fraction_bits : Width → ℕ
fraction_bits Half = 10
fraction_bits Single = 23
fraction_bits Double = 52

-- what the sign bit counts, which stands above both
unfoldable pub sign_of : Width → ℕ
sign_of w = 2 ^ (exponent_bits w + fraction_bits w)

-- the least number of a width above 0 is 2 ^ -n for this n
unfoldable pub least_of : Width → ℕ
least_of w = 2 ^ (exponent_bits w - 1) + fraction_bits w - 2

-- ---- what a magnitude stands for

-- infinity has an exponent of all ones and no fraction; what is above it is no number
unfoldable pub infinity_of : Width → ℕ
infinity_of w = (2 ^ exponent_bits w - 1) * 2 ^ fraction_bits w

-- by how many places the fraction of f bits is shifted: one for each exponent above 1. An exponent
-- of 0 shifts as 1 does
unfoldable pub shift_of : ℕ → ℕ → ℕ
shift_of f m = m / 2 ^ f - 1

-- the number, counted in the least of its width: the fraction, shifted. Above exponent 0 a one
-- stands before the fraction
unfoldable pub worth : ℕ → ℕ → ℕ
worth f m = (m - shift_of f m * 2 ^ f) * 2 ^ shift_of f m

-- the magnitude that is worth v: each halving until f + 1 bits hold it is one more exponent. n are
-- enough halvings; the bits that they drop are lost
unfoldable pub packed : ℕ → ℕ → ℕ → ℕ
packed zero f v = v
packed (suc n) f v = choose (ltb v (2 ^ suc f)) v (2 ^ f + packed n f (v / 2))

-- ---- from width to width

-- the least number of this width, counted in the least of a double, is 2 to this power
unfoldable pub scale_of : Width → ℕ
scale_of w = least_of Double - least_of w

-- the double of the same number (R10.8)
unfoldable pub widened : Width → ℕ → ℕ
widened w m = packed (2 ^ 11) (fraction_bits Double) (worth (fraction_bits w) m * 2 ^ scale_of w)

-- the magnitude of this width for a double's number, or for the next one below that
unfoldable pub narrowed : Width → ℕ → ℕ
narrowed w m = packed (2 ^ 11) (fraction_bits w) (worth (fraction_bits Double) m / 2 ^ scale_of w)

-- whether this width has the number of a double
unfoldable pub holds : Width → ℕ → Bool
holds w m = ltb (narrowed w m) (infinity_of w) && eqb (widened w (narrowed w m)) m

-- the shortest width that has it (R10.8)
unfoldable pub shortest : ℕ → Width
shortest m = choose (holds Half m) Half (choose (holds Single m) Single Double)

-- ---- the bits with their sign

unfoldable pub magnitude : Width → ℕ → ℕ
magnitude w bits = bits % sign_of w

unfoldable pub finite : Width → ℕ → Bool
finite w bits = ltb (magnitude w bits) (infinity_of w)

-- 1 for a minus, which zero may have too
unfoldable pub sign_bit : Width → ℕ → ℕ
sign_bit w bits = bits / sign_of w % 2

-- the 64 bits of the double for the bits of any width (R10.8)
unfoldable pub widened_bits : Width → ℕ → ℕ
widened_bits w bits = sign_bit w bits * sign_of Double + widened w (magnitude w bits)

-- and the bits of any width for those 64
unfoldable pub narrowed_bits : Width → ℕ → ℕ
narrowed_bits w value = sign_bit Double value * sign_of w + narrowed w (magnitude Double value)
