-- The one written form of each item: section 10 of docs/RULES.md, and RFC 8949, section 3.
use Rattle.std.specs.Prelude.{ℕ, ◌+◌, ◌*◌, ◌/◌, ◌^◌, List, ◌∷◌, ◌++◌, length, ltb, eqb}
use Rattle.wire.specs.Answer.{choose, Answer, done, demand}
use Rattle.wire.specs.Number.{big_endian}
use Rattle.cbor.specs.Float.{exponent_bits, fraction_bits, finite, shortest, magnitude, narrowed_bits}
use Rattle.cbor.specs.declared.Width.{Width}
use Rattle.cbor.specs.declared.Width.TheVariants.{Half, Single, Double}

-- the five low bits of a head's first byte: a number below 24 itself, and else 24 to 27, for the
-- fewest bytes that hold it (R10.1)
unfoldable pub info_of : ℕ → ℕ
info_of n =
    choose (ltb n 24) n
    (choose (ltb n (2 ^ 8)) 24
    (choose (ltb n (2 ^ 16)) 25
    (choose (ltb n (2 ^ 32)) 26 27)))

-- how many bytes of the number follow the first byte
unfoldable pub width_of : ℕ → ℕ
width_of info =
    choose (ltb info 24) 0
    (choose (eqb info 24) 1
    (choose (eqb info 25) 2
    (choose (eqb info 26) 4 8)))

-- the head of an item, the shortest (R10.1): three bits of major type, the five bits, the bytes of
-- the number
unfoldable pub head_of : ℕ → ℕ → List ℕ
head_of major n = (major * 32 + info_of n) ∷ big_endian (width_of (info_of n)) n

-- how long it is, for every major type
unfoldable pub head_size : ℕ → ℕ
head_size n = 1 + width_of (info_of n)

-- a byte string, major type 2, or a text, 3, behind its length (R10.1); a key is a text (R10.6)
unfoldable pub string_of : ℕ → List ℕ → List ℕ
string_of major bs = head_of major (length bs) ++ bs

-- the first byte of a float of each width (R10.8)
unfoldable pub first_of : Width → ℕ
first_of Half = 0xF9
first_of Single = 0xFA
first_of Double = 0xFB

-- how many bytes follow it: for a sign, the exponent and the fraction
unfoldable pub bytes_of : Width → ℕ
bytes_of w = (1 + exponent_bits w + fraction_bits w) / 8

-- a float of a width that has it, by the 64 bits of its double
unfoldable pub float_as : Width → ℕ → List ℕ
float_as w value = first_of w ∷ big_endian (bytes_of w) (narrowed_bits w value)

-- the same in the shortest width that has it (R10.8)
unfoldable pub float_of : ℕ → List ℕ
float_of value = float_as (shortest (magnitude Double value)) value

-- one that is not finite is not written alone: 19 (R10.9)
unfoldable pub float_verdict : ℕ → Answer (List ℕ)
float_verdict value = demand (finite Double value) 19 (done (float_of value))

-- a key and a string
unfoldable pub string_field_of : List ℕ → ℕ → List ℕ → List ℕ
string_field_of name major bs = string_of 3 name ++ string_of major bs

-- a key and a number
unfoldable pub number_field_of : List ℕ → ℕ → List ℕ
number_field_of name n = string_of 3 name ++ head_of 0 n
