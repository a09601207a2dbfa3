-- Worked examples: RFC 8949, appendix A, and the order of refusals (R10.3). Each is computed.
-- Assumes nothing.
use mathlib.Core.Path.{◌≡◌, refl}
use mathlib.Core.List.{[], ◌∷◌}
use Rattle.wire.specs.Answer.{refused, got}
use Rattle.wire.specs.Number.{digits, number_from}
use Rattle.lend.specs.Same.{same}
use Rattle.cbor.specs.Form.{info_of, width_of, head_of, first_of, bytes_of, float_as, float_of, string_of}
use Rattle.cbor.specs.Float.{exponent_bits, fraction_bits, sign_of, least_of, infinity_of, finite, shift_of, worth, packed, scale_of, widened, narrowed, holds, shortest, magnitude, sign_bit, narrowed_bits}
use Rattle.cbor.specs.declared.Width.TheVariants.{Half, Single, Double}
use Rattle.cbor.specs.Item.{one_at, big_endian_at, argument_at, kind_of, head_at, number_at, contents_at, string_at, name_at, key_at}
use Rattle.wire.specs.Ascii.{ascii}

-- ---- the written forms

-- For the reader: 23, 24, 1000, 1000000, 1000000000000 and 2^64 - 1
numbers : (head_of 0 23 ≡ 0x17 ∷ [])
    × (head_of 0 24 ≡ 0x18 ∷ 0x18 ∷ [])
    × (head_of 0 1000 ≡ 0x19 ∷ 0x03 ∷ 0xE8 ∷ [])
    × (head_of 0 1000000 ≡ 0x1A ∷ 0x00 ∷ 0x0F ∷ 0x42 ∷ 0x40 ∷ [])
    × (head_of 0 1000000000000 ≡ 0x1B ∷ 0x00 ∷ 0x00 ∷ 0x00 ∷ 0xE8 ∷ 0xD4 ∷ 0xA5 ∷ 0x10 ∷ 0x00 ∷ [])
    × (head_of 0 18446744073709551615 ≡ 0x1B ∷ 0xFF ∷ 0xFF ∷ 0xFF ∷ 0xFF ∷ 0xFF ∷ 0xFF ∷ 0xFF ∷ 0xFF ∷ [])
unfolding head_of info_of width_of digits
numbers = (refl, refl, refl, refl, refl, refl)

-- For the reader: -1, -100, the bytes 01020304, and the text `IETF`
others : (head_of 1 0 ≡ 0x20 ∷ [])
    × (head_of 1 99 ≡ 0x38 ∷ 0x63 ∷ [])
    × (string_of 2 (1 ∷ 2 ∷ 3 ∷ 4 ∷ []) ≡ 0x44 ∷ 1 ∷ 2 ∷ 3 ∷ 4 ∷ [])
    × (string_of 3 (0x49 ∷ 0x45 ∷ 0x54 ∷ 0x46 ∷ []) ≡ 0x64 ∷ 0x49 ∷ 0x45 ∷ 0x54 ∷ 0x46 ∷ [])
unfolding head_of info_of width_of digits string_of
others = (refl, refl, refl, refl)

-- For the reader: 1.5, 100000.0 and 1.1; both zeros; the least half; the greatest half, and what is
-- next above it in a single
floats : (float_of 0x3FF8000000000000 ≡ 0xF9 ∷ 0x3E ∷ 0x00 ∷ [])
    × (float_of 0x40F86A0000000000 ≡ 0xFA ∷ 0x47 ∷ 0xC3 ∷ 0x50 ∷ 0x00 ∷ [])
    × (float_of 0x3FF199999999999A ≡ 0xFB ∷ 0x3F ∷ 0xF1 ∷ 0x99 ∷ 0x99 ∷ 0x99 ∷ 0x99 ∷ 0x99 ∷ 0x9A ∷ [])
    × (float_of 0 ≡ 0xF9 ∷ 0x00 ∷ 0x00 ∷ [])
    × (float_of 0x8000000000000000 ≡ 0xF9 ∷ 0x80 ∷ 0x00 ∷ [])
    × (float_of 0x3E70000000000000 ≡ 0xF9 ∷ 0x00 ∷ 0x01 ∷ [])
    × (float_of 0x40EFFC0000000000 ≡ 0xF9 ∷ 0x7B ∷ 0xFF ∷ [])
    × (float_of 0x40EFFC2000000000 ≡ 0xFA ∷ 0x47 ∷ 0x7F ∷ 0xE1 ∷ 0x00 ∷ [])
unfolding digits first_of bytes_of float_of float_as shortest holds finite infinity_of widened narrowed packed worth shift_of scale_of least_of exponent_bits fraction_bits sign_of magnitude sign_bit narrowed_bits
floats = (refl, refl, refl, refl, refl, refl, refl, refl)

-- For the reader: the least half is 2^-24, the least single 2^-149, the least double 2^-1074
leasts : (least_of Half ≡ 24) × (least_of Single ≡ 149) × (least_of Double ≡ 1074)
unfolding least_of exponent_bits fraction_bits
leasts = (refl, refl, refl)

-- ---- the order of refusals

-- For the reader: a wrong kind, a reserved and an indefinite head are 18, also where the input ends
-- after the first byte; then a cut head is 3, and one that is not shortest 18
heads : (head_at (0x59 ∷ []) 0 0 ≡ refused 18)
    × (head_at (0x1C ∷ []) 0 0 ≡ refused 18)
    × (head_at (0x5F ∷ []) 0 2 ≡ refused 18)
    × (head_at (0x19 ∷ 0x03 ∷ []) 0 0 ≡ refused 3)
    × (head_at [] 0 0 ≡ refused 3)
    × (head_at (0x18 ∷ 0x17 ∷ []) 0 0 ≡ refused 18)
    × (head_at (0x3A ∷ 0x00 ∷ 0x00 ∷ 0xFF ∷ 0xFF ∷ []) 0 0 ≡ refused 18)
unfolding head_at info_of width_of kind_of argument_at big_endian_at number_from
heads = (refl, refl, refl, refl, refl, refl, refl)

-- For the reader: a negative number is of the right kind and out of range; a length is judged
-- before the contents are there
numbers_read : (number_at (0x01 ∷ []) 0 0 1 1 19 ≡ got 1 1)
    × (number_at (0x20 ∷ []) 0 0 1 1 19 ≡ refused 19)
    × (number_at (0x02 ∷ []) 0 0 1 1 19 ≡ refused 19)
    × (string_at (0x42 ∷ 7 ∷ []) 0 2 3 3 19 ≡ refused 19)
    × (string_at (0x42 ∷ 7 ∷ []) 0 2 2 2 19 ≡ refused 3)
    × (string_at (0x42 ∷ 7 ∷ 8 ∷ []) 0 2 2 2 19 ≡ got (record { start = 1; len = 2 }) 3)
unfolding number_at head_at info_of width_of kind_of argument_at big_endian_at number_from string_at contents_at
numbers_read = (refl, refl, refl, refl, refl, refl)

-- For the reader: `pub` as a key: another length of text is 18 at once, a cut name 3, another name
-- 18
keys : (key_at (0x63 ∷ 0x70 ∷ 0x75 ∷ 0x62 ∷ []) 0 (ascii "pub") ≡ got tt 4)
    × (key_at (0x64 ∷ []) 0 (ascii "pub") ≡ refused 18)
    × (key_at (0x63 ∷ 0x78 ∷ []) 0 (ascii "pub") ≡ refused 3)
    × (key_at (0x63 ∷ 0x70 ∷ 0x75 ∷ 0x63 ∷ []) 0 (ascii "pub") ≡ refused 18)
unfolding key_at one_at name_at same
keys = (refl, refl, refl, refl)
