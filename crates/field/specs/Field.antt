-- The field with 2^128 elements in which secrets are split: R19.1 of docs/RULES.md.
use Rattle.std.specs.Prelude.{ℕ, zero, suc, ◌*◌, ◌/◌, ◌%◌, ◌^◌, get_or}
use Rattle.std.specs.Int.Bits.{bit_xor}
use Rattle.field.specs.Inverses.{inverses}

-- An element is a polynomial over two elements, 0 and 1, of a degree below 128. It is written as a
-- number below 2^128: bit k is the coefficient of x^k (R19.1).

-- coefficient for coefficient, modulo 2
abbrev pub plus : ℕ → ℕ → ℕ
plus a b = bit_xor a b

-- a times x: each coefficient moves up, and where x^128 comes to stand it is
-- x^7 + x^2 + x + 1, since x^128 + x^7 + x^2 + x + 1 is 0
unfoldable pub times_x : ℕ → ℕ
times_x a = bit_xor (a * 2 % 2 ^ 128) (a / 2 ^ 127 % 2 * 0x87)

-- a coefficient, 0 or 1, times a
abbrev pub pick : ℕ → ℕ → ℕ
pick zero a = 0
pick (suc n) a = a

-- the polynomial of the n lowest bits of w, times a
unfoldable pub times : ℕ → ℕ → ℕ → ℕ
times zero w a = 0
times (suc n) w a = plus (pick (w % 2) a) (times n (w / 2) (times_x a))

-- the product of two elements
unfoldable pub product : ℕ → ℕ → ℕ
product a b = times 128 b a

-- the element by which d gives 1, for d from 1 to 255: `inverse_right` of proofs/Division.antt. Two
-- different points differ by such a d
unfoldable pub inverse : ℕ → ℕ
inverse d = get_or inverses d 0

-- a divided by d
abbrev pub over : ℕ → ℕ → ℕ
over a d = product a (inverse d)
