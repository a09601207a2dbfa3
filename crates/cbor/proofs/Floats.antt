-- Widening keeps the number and is undone by narrowing, and what narrows and widens back has a form
-- of that width. Assumes nothing.
use Prim.Native.Nat.{ℕ, ◌+◌, ◌*◌, ◌/◌, ◌%◌, ◌^◌, ◌<◌, ◌≤◌}
use mathlib.Core.Path.{◌≡◌, refl, sym, ap, ap₂, ◌∙◌, subst}
use mathlib.Core.Bool.{true}
use native.Mathlib.Nat.{mul-le-mul_right, mul-one, mod-lt}
use native.Mathlib.Omega.{arith}
use borrow.Author.Tests.{lt-ltb, ltb-true, eq-eqb, eqb-true}
use lib.Dec.{ltb, eqb}
use lib.Pow.{pow-add, pow_pos, shl-shr, shr_lt, high, low, split}
use Rattle.wire.proofs.Cases.{both_hold}
use Rattle.cbor.specs.Float.{exponent_bits, fraction_bits, sign_of, least_of, infinity_of, finite, shift_of, worth, packed, scale_of, widened, narrowed, holds, magnitude, sign_bit, widened_bits, narrowed_bits}
use Rattle.cbor.specs.declared.Width.{Width}
use Rattle.cbor.specs.declared.Width.TheVariants.{Half, Single, Double}
use Rattle.cbor.proofs.Packing.{packed_worth, rescaled_worth, rescaled_below}

-- ---- each width

-- the numbers of this width are among those of a double
pub fraction_most : (w : Width) → (fraction_bits w ≤ 52) × (52 ≤ fraction_bits w + scale_of w)
unfolding fraction_bits scale_of least_of exponent_bits
fraction_most Half = (omega arith, omega arith)
fraction_most Single = (omega arith, omega arith)
fraction_most Double = (omega arith, omega arith)

pub shift_most : (w : Width) (m : ℕ) → m < sign_of w → (shift_of (fraction_bits w) m + scale_of w ≤ 2046) × (fraction_bits w + shift_of (fraction_bits w) m + scale_of w ≤ 2098)
unfolding fraction_bits scale_of least_of exponent_bits sign_of shift_of
shift_most Half m h = (omega arith, omega arith)
shift_most Single m h = (omega arith, omega arith)
shift_most Double m h = (omega arith, omega arith)

-- below infinity is below the sign
pub infinity_most : (w : Width) → infinity_of w < sign_of w
unfolding infinity_of sign_of exponent_bits fraction_bits
infinity_most Half = omega arith
infinity_most Single = omega arith
infinity_most Double = omega arith

finite_shift : (w : Width) (m : ℕ) → m < infinity_of w → fraction_bits w + shift_of (fraction_bits w) m + scale_of w ≤ 2097
unfolding fraction_bits scale_of least_of exponent_bits infinity_of shift_of
finite_shift Half m h = omega arith
finite_shift Single m h = omega arith
finite_shift Double m h = omega arith

pub finite_below : (w : Width) (bits : ℕ) → finite w bits ≡ true → magnitude w bits < infinity_of w
unfolding finite
finite_below w bits h = ltb-true (magnitude w bits) (infinity_of w) h

pub below_finite : (w : Width) (bits : ℕ) → magnitude w bits < infinity_of w → finite w bits ≡ true
unfolding finite
below_finite w bits h = lt-ltb (magnitude w bits) (infinity_of w) h

-- ---- widening

module _ (w : Width) (m : ℕ) where
  -- For the reader: the double stands for the same number, both being counted in the least double
  pub widened_worth : m < sign_of w → worth 52 (widened w m) ≡ worth (fraction_bits w) m * 2 ^ scale_of w
  unfolding widened fraction_bits
  widened_worth h = rescaled_worth (2 ^ 11) (fraction_bits w) 52 (scale_of w) m (fraction_most w).0 (omega (arith, shift_most w m h))

  -- narrowing undoes it
  pub narrowed_widened : m < sign_of w → narrowed w (widened w m) ≡ m
  unfolding narrowed fraction_bits
  narrowed_widened h =
      ap (λ (v : ℕ). packed (2 ^ 11) (fraction_bits w) (v / 2 ^ scale_of w)) (widened_worth h)
      ∙ ap (packed (2 ^ 11) (fraction_bits w)) (shl-shr (worth (fraction_bits w) m) (scale_of w))
      ∙ packed_worth (fraction_bits w) (2 ^ 11) m (omega (arith, shift_most w m h))

  pub widened_unsigned : m < sign_of w → widened w m < 2 ^ 63
  unfolding widened fraction_bits
  widened_unsigned h = rescaled_below (2 ^ 11) (fraction_bits w) 52 (scale_of w) m 2046 (omega arith) (omega (arith, shift_most w m h))

  -- what is finite widens to what is
  pub widened_finite : m < infinity_of w → widened w m < infinity_of Double
  unfolding widened fraction_bits infinity_of exponent_bits
  widened_finite h = rescaled_below (2 ^ 11) (fraction_bits w) 52 (scale_of w) m 2045 (omega arith) (omega (arith, finite_shift w m h))

-- For the reader: at each width two magnitudes that widen to one double are one
pub widened_once : (w : Width) (m n : ℕ) → m < sign_of w → n < sign_of w → widened w m ≡ widened w n → m ≡ n
widened_once w m n h l e = sym (narrowed_widened w m h) ∙ ap (narrowed w) e ∙ narrowed_widened w n l

-- a double widens to itself
pub widened_double : (m : ℕ) → m < 2 ^ 63 → widened Double m ≡ m
unfolding widened fraction_bits scale_of sign_of exponent_bits least_of
widened_double m h =
    ap (packed (2 ^ 11) 52) (mul-one (worth 52 m)) ∙ packed_worth 52 (2 ^ 11) m (omega (arith, shift_most Double m h))

narrowed_double : (m : ℕ) → m < 2 ^ 63 → narrowed Double m ≡ m
unfolding sign_of exponent_bits fraction_bits
narrowed_double m h = ap (narrowed Double) (sym (widened_double m h)) ∙ narrowed_widened Double m h

-- ---- which width has a number

pub record Form (w : Width) (d : ℕ) : Type 0 where
  pub finite : narrowed w d < infinity_of w
  pub widens : widened w (narrowed w d) ≡ d

pub holds_form : (w : Width) (d : ℕ) → holds w d ≡ true → Form w d
unfolding holds
holds_form w d h =
    let t = both_hold (ltb (narrowed w d) (infinity_of w)) (eqb (widened w (narrowed w d)) d) h in
    record { finite = ltb-true _ _ t.0; widens = eqb-true _ _ t.1 }

pub holds_finite : (w : Width) (d : ℕ) → holds w d ≡ true → d < infinity_of Double
holds_finite w d h =
    let f = holds_form w d h in subst (λ (i : ℕ). i < infinity_of Double) f.widens (widened_finite w (narrowed w d) f.finite)

-- a finite magnitude that widens to it is the one that it narrows to
pub holds_widened : (w : Width) (m : ℕ) → m < infinity_of w → holds w (widened w m) ≡ true
unfolding holds
holds_widened w m h =
    rw (narrowed_widened w m (omega (arith, infinity_most w)), lt-ltb m (infinity_of w) h, eq-eqb (widened w m) (widened w m) refl)

pub holds_double : (d : ℕ) → d < infinity_of Double → holds Double d ≡ true
unfolding sign_of exponent_bits fraction_bits
holds_double d h = subst (λ (i : ℕ). holds Double i ≡ true) (widened_double d (omega (arith, infinity_most Double))) (holds_widened Double d h)

-- ---- the bits with their sign

pub magnitude_unsigned : (w : Width) (bits : ℕ) → magnitude w bits < sign_of w
unfolding magnitude sign_of
magnitude_unsigned w bits = mod-lt bits (pow_pos (exponent_bits w + fraction_bits w))

pub sign_most : (w : Width) (bits : ℕ) → sign_bit w bits ≤ 1
unfolding sign_bit
sign_most w bits = omega arith

-- a sign and a magnitude are all the bits
bits_whole : (w : Width) (bits : ℕ) → bits < 2 * sign_of w → sign_bit w bits * sign_of w + magnitude w bits ≡ bits
unfolding sign_bit magnitude sign_of
bits_whole w bits h =
    let e : 2 ^ (1 + (exponent_bits w + fraction_bits w)) ≡ 2 * 2 ^ (exponent_bits w + fraction_bits w) = pow-add 2 1 (exponent_bits w + fraction_bits w) in
    let l = shr_lt {n = bits} 1 (exponent_bits w + fraction_bits w) (rw e h) in
    let q : bits / 2 ^ (exponent_bits w + fraction_bits w) % 2 ≡ bits / 2 ^ (exponent_bits w + fraction_bits w) = omega arith in
    rw q (split bits (exponent_bits w + fraction_bits w))

module _ (w : Width) (bits : ℕ) where
  widened_parts : (sign_bit Double (widened_bits w bits) ≡ sign_bit w bits) × (magnitude Double (widened_bits w bits) ≡ widened w (magnitude w bits))
  unfolding widened_bits magnitude sign_bit sign_of exponent_bits fraction_bits
  widened_parts = let l = widened_unsigned w (magnitude w bits) (magnitude_unsigned w bits) in (omega arith, omega arith)

  pub magnitude_widened : magnitude Double (widened_bits w bits) ≡ widened w (magnitude w bits)
  magnitude_widened = widened_parts.1

  pub widened_bits_below : widened_bits w bits < 2 ^ 64
  unfolding widened_bits sign_of exponent_bits fraction_bits
  widened_bits_below = omega (arith, sign_most w bits, widened_unsigned w (magnitude w bits) (magnitude_unsigned w bits))

  pub narrowed_widened_bits : bits < 2 * sign_of w → narrowed_bits w (widened_bits w bits) ≡ bits
  unfolding narrowed_bits
  narrowed_widened_bits h =
      ap₂ (λ (q d : ℕ). q * sign_of w + narrowed w d) widened_parts.0 widened_parts.1
      ∙ ap (λ (i : ℕ). sign_bit w bits * sign_of w + i) (narrowed_widened w (magnitude w bits) (magnitude_unsigned w bits))
      ∙ bits_whole w bits h

module _ (w : Width) (value : ℕ) (h : Form w (magnitude Double value)) where
  narrowed_unsigned : narrowed w (magnitude Double value) < sign_of w
  narrowed_unsigned = omega (arith, h.finite, infinity_most w)

  sign_narrowed : sign_bit w (narrowed_bits w value) ≡ sign_bit Double value
  unfolding sign_bit narrowed_bits sign_of
  sign_narrowed =
      let e = high (sign_bit Double value) (exponent_bits w + fraction_bits w) narrowed_unsigned in
      omega (arith, e, sign_most Double value)

  pub magnitude_narrowed : magnitude w (narrowed_bits w value) ≡ narrowed w (magnitude Double value)
  unfolding magnitude narrowed_bits sign_of
  magnitude_narrowed = low (sign_bit Double value) (exponent_bits w + fraction_bits w) narrowed_unsigned

  pub widened_narrowed_bits : value < 2 ^ 64 → widened_bits w (narrowed_bits w value) ≡ value
  unfolding widened_bits sign_of exponent_bits fraction_bits
  widened_narrowed_bits l =
      ap₂ (λ (q m : ℕ). q * sign_of Double + widened w m) sign_narrowed magnitude_narrowed
      ∙ ap (λ (i : ℕ). sign_bit Double value * sign_of Double + i) h.widens
      ∙ bits_whole Double value l

  pub narrowed_bits_below : narrowed_bits w value < 2 * sign_of w
  unfolding narrowed_bits
  narrowed_bits_below =
      omega (arith, narrowed_unsigned, mul-le-mul_right {m = sign_bit Double value} {n = 1} (sign_of w) (sign_most Double value))

-- the bits of a double are its own form
pub narrowed_bits_double : (value : ℕ) → value < 2 ^ 64 → narrowed_bits Double value ≡ value
unfolding narrowed_bits sign_of exponent_bits fraction_bits
narrowed_bits_double value l =
    ap (λ (i : ℕ). sign_bit Double value * sign_of Double + i) (narrowed_double (magnitude Double value) (magnitude_unsigned Double value)) ∙ bits_whole Double value l
