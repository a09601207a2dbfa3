-- What `float.rt` computes, over plain numbers, is what the definitions say. Assumes nothing.
use Prim.Native.Nat.{ℕ, zero, suc, ◌+◌, ◌-◌, ◌*◌, ◌/◌, ◌%◌, ◌^◌, ◌<◌, ◌≤◌}
use mathlib.Core.Path.{◌≡◌, refl, sym, ap, ap₂, ◌∙◌, subst}
use mathlib.Core.Logic.{⊎_elim}
use mathlib.Core.Bool.{Bool, true, false, not}
use mathlib.Core.List.{List}
use native.Mathlib.Nat.{mul_assoc, mul-le-mul_right}
use native.Mathlib.Omega.{arith}
use borrow.Author.Tests.{lt-ltb, le-ltb, not-true, not-false}
use mir.Syntax.{w64}
use mir.Val.{Fits}
use denote.Enum.Bare.{sameb}
use lib.Count.{count_leading_zeros, leading_top}
use lib.Dec.{ltb, eqb}
use lib.Pow.{pow-add, pow_mono, pow_pos, shl_lt, shl-shr, shr_lt, shr-shr, shr_mono, shr_le}
use Rattle.wire.specs.Answer.{Got, refused, got}
use Rattle.wire.proofs.Cases.{lt_or_le}
use Rattle.cbor.specs.Float.{exponent_bits, fraction_bits, sign_of, least_of, infinity_of, scale_of, finite, shift_of, packed, widened, narrowed, holds, shortest, magnitude, sign_bit, widened_bits, narrowed_bits}
use Rattle.cbor.specs.Form.{first_of, bytes_of}
use Rattle.cbor.specs.Item.{byte_at, big_endian_at, is_float, width_by, body_at, float_at}
use Rattle.cbor.specs.contracts.Width.{the_type}
use Rattle.cbor.specs.declared.Width.{Width}
use Rattle.cbor.specs.declared.Width.TheVariants.{Half, Single, Double}
use Rattle.cbor.proofs.Packing.{Shifted, shifted, packed_low, packed_high, packed_shifted, worth_shifted, rescaled}
use Rattle.cbor.proofs.Floats.{fraction_most, shift_most, infinity_most, widened_unsigned, magnitude_unsigned}

-- ---- the shapes of the widths

-- the numbers of the width v, which w is
pub shape_at : (w v : Width) (a b c d e : ℕ) → w ≡ v → a ≡ sign_of v → b ≡ infinity_of v → c ≡ 2 ^ fraction_bits v → d ≡ fraction_bits v → e ≡ scale_of v
    → (a ≡ sign_of w) × (b ≡ infinity_of w) × (c ≡ 2 ^ fraction_bits w) × (d ≡ fraction_bits w) × (e ≡ scale_of w)
shape_at w v a b c d e q f g h i j = rw q (f, g, h, i, j)

pub bytes_at : (w v : Width) → w ≡ v → (n : ℕ) → n ≡ bytes_of v → n ≡ bytes_of w
bytes_at w v q n h = rw q h

sign_below : (w : Width) → sign_of w ≤ 2 ^ 63
unfolding sign_of exponent_bits fraction_bits
sign_below Half = omega arith
sign_below Single = omega arith
sign_below Double = omega arith

scale_most : (w : Width) → scale_of w ≤ 1050
unfolding scale_of least_of exponent_bits fraction_bits
scale_most Half = omega arith
scale_most Single = omega arith
scale_most Double = omega arith

pub scale_fits : (w : Width) (k f : ℕ) → k ≡ scale_of w → f ≡ fraction_bits w → Fits w64 (k + f)
scale_fits w k f c e = record { fits = omega (arith, scale_most w, (fraction_most w).0) }

-- ---- `pack`

-- the first one of s stands as many places below the one before a fraction of 52 bits as s has
-- leading zeros above 11
module _ (s x : ℕ) (p : 0 < s) (b : s < 2 ^ 53) where
  place : (j : ℕ) × (j + (count_leading_zeros 64 s - 11) ≡ 52) × (11 ≤ count_leading_zeros 64 s) × (count_leading_zeros 64 s ≤ 63) × (2 ^ j ≤ s) × (s < 2 ^ suc j)
  place =
      let t = leading_top 64 s p (omega arith) in
      let l : t.0 < 53 = ⊎_elim (λ (k : t.0 < 53). k) (λ (k : 53 ≤ t.0). absurd (omega (arith, t.2, pow_mono {i = 53} {j = t.0} k))) (lt_or_le t.0 53) in
      (t.0, omega (arith, t.1), omega (arith, t.1), omega (arith, t.1), t.2, t.3)

  pub zeros_fit : Fits w64 (count_leading_zeros 64 s)
  zeros_fit = record { fits = omega (arith, place.3) }

  pub zeros_least : 11 ≤ count_leading_zeros 64 s
  zeros_least = place.2

  pub zeros_most : count_leading_zeros 64 s - 11 < 64
  zeros_most = omega (arith, place.3)

  pub pack_low : x < count_leading_zeros 64 s - 11 → (s * 2 ^ x) % 2 ^ 64 ≡ packed 2048 52 (s * 2 ^ x)
  pack_low h =
      let l : s * 2 ^ x < 2 ^ 53 = omega (arith, shl_lt {a = s} (suc place.0) x place.5, pow_mono {i = suc place.0 + x} {j = 53} (omega (arith, place.1))) in
      let e : (s * 2 ^ x) % 2 ^ 64 ≡ s * 2 ^ x = omega arith in
      e ∙ sym (packed_low 52 2048 (s * 2 ^ x) l)

  raised : (2 ^ 52 ≤ s * 2 ^ (count_leading_zeros 64 s - 11)) × (s * 2 ^ (count_leading_zeros 64 s - 11) < 2 ^ 53)
  raised =
      let k : ℕ = count_leading_zeros 64 s - 11 in
      let e : 2 ^ place.0 * 2 ^ (count_leading_zeros 64 s - 11) ≡ 2 ^ 52 = sym (pow-add 2 place.0 (count_leading_zeros 64 s - 11)) ∙ ap (λ (i : ℕ). 2 ^ i) place.1 in
      let d : suc place.0 + (count_leading_zeros 64 s - 11) ≡ 53 = omega (arith, place.1) in (
        omega (arith, e, mul-le-mul_right (2 ^ (count_leading_zeros 64 s - 11)) place.4),
        subst (λ (i : ℕ). s * 2 ^ (count_leading_zeros 64 s - 11) < 2 ^ i) d (shl_lt {a = s} (suc place.0) (count_leading_zeros 64 s - 11) place.5),
      )

  pub pack_fits : x ≤ 2046 → Fits w64 ((x - (count_leading_zeros 64 s - 11)) * 2 ^ 52 + (s * 2 ^ (count_leading_zeros 64 s - 11)) % 2 ^ 64)
  pack_fits h = record { fits = omega (arith, raised.1) }

  pub pack_raised : x ≤ 2046 → count_leading_zeros 64 s - 11 ≤ x
      → (x - (count_leading_zeros 64 s - 11)) * 2 ^ 52 + (s * 2 ^ (count_leading_zeros 64 s - 11)) % 2 ^ 64 ≡ packed 2048 52 (s * 2 ^ x)
  pack_raised h l =
      let k : ℕ = count_leading_zeros 64 s - 11 in
      let e : (s * 2 ^ (count_leading_zeros 64 s - 11)) % 2 ^ 64 ≡ s * 2 ^ (count_leading_zeros 64 s - 11) = omega (arith, raised.1) in
      let g : Shifted 52 ((x - k) * 2 ^ 52 + s * 2 ^ k) (x - k) (s * 2 ^ k) = record { whole = refl; short = raised.1; first = λ z. raised.0 } in
      let d : k + (x - k) ≡ x = omega arith in
      let c : s * 2 ^ k * 2 ^ (x - k) ≡ s * 2 ^ x =
      mul_assoc s (2 ^ k) (2 ^ (x - k)) ∙ ap (λ (i : ℕ). s * i) (sym (pow-add 2 k (x - k)) ∙ ap (λ (i : ℕ). 2 ^ i) d) in
      ap (λ (i : ℕ). (x - k) * 2 ^ 52 + i) e ∙ sym (packed_shifted 52 g 2048 (omega arith)) ∙ ap (packed 2048 52) c

pub pack_none : (s x : ℕ) → s ≡ 0 → 0 ≡ packed 2048 52 (s * 2 ^ x)
pack_none s x e = sym (ap (λ (i : ℕ). packed 2048 52 (i * 2 ^ x)) e ∙ packed_low 52 2048 (0 * 2 ^ x) (omega arith) ∙ omega arith)

pub step_divides : (w : Width) (step : ℕ) → step ≡ 2 ^ fraction_bits w → 0 < step
step_divides w step e = omega (arith, pow_pos (fraction_bits w))

-- ---- `widen`: x is the shift, step what an exponent counts, k the scale

module _ (w : Width) (m x step : ℕ) (h : m < sign_of w) (e : step ≡ 2 ^ fraction_bits w) (d : x ≡ m / step - 1) where
  shift_is : x ≡ shift_of (fraction_bits w) m
  unfolding shift_of
  shift_is = d ∙ ap (λ (i : ℕ). m / i - 1) e

  rest_is : m - x * step ≡ m - shift_of (fraction_bits w) m * 2 ^ fraction_bits w
  rest_is = ap₂ (λ (i j : ℕ). m - i * j) shift_is e

  product_is : x * step ≡ shift_of (fraction_bits w) m * 2 ^ fraction_bits w
  product_is = ap₂ (λ (i j : ℕ). i * j) shift_is e

  pub product_most : x * step ≤ m
  product_most = omega (arith, product_is, (shifted (fraction_bits w) m).whole)

  pub product_fits : Fits w64 (x * step)
  product_fits = record { fits = omega (arith, product_most, sign_below w) }

  module _ (k : ℕ) (c : k ≡ scale_of w) where
    pub scaled_fits : Fits w64 (x + k)
    scaled_fits = record { fits = omega (arith, shift_is, (shift_most w m h).0) }

    pub widen_short : m - x * step < 2 ^ 53
    widen_short =
        omega (arith, rest_is, (shifted (fraction_bits w) m).short, pow_mono {i = suc (fraction_bits w)} {j = 53} (omega (arith, (fraction_most w).0)))

    pub widen_low : x + k ≤ 2046
    widen_low = omega (arith, shift_is, (shift_most w m h).0)

    pub widen_done : (r : ℕ) → r ≡ packed 2048 (fraction_bits Double) ((m - x * step) * 2 ^ (x + k)) → r ≡ widened w m
    unfolding widened
    widen_done r q =
        q ∙ ap (packed 2048 (fraction_bits Double)) (ap₂ (λ (i j : ℕ). i * 2 ^ j) rest_is (ap₂ (λ (i j : ℕ). i + j) shift_is c) ∙ sym (rescaled 2048 (fraction_bits w) 52 (scale_of w) m))

-- ---- `narrow`: s is shifted by x, k the scale; z are the exponents that f bits of fraction leave,
-- and what is left of s after the rest of the shift stands below them

module _ (n f k x s z : ℕ) (a : f ≤ 52) (b : 52 ≤ f + k) (short : s < 2 ^ 53) (first : 0 < x → 2 ^ 52 ≤ s) (e : z ≡ x + 52 - (k + f)) where
  -- the shift is undone first
  dropped : s * 2 ^ x / 2 ^ k / 2 ^ z ≡ s / 2 ^ (k + z - x)
  dropped =
      let d : k + z ≡ x + (k + z - x) = omega arith in
      shr-shr (s * 2 ^ x) k z ∙ ap (λ (i : ℕ). s * 2 ^ x / 2 ^ i) d ∙ sym (shr-shr (s * 2 ^ x) x (k + z - x)) ∙ ap (λ (i : ℕ). i / 2 ^ (k + z - x)) (shl-shr s x)

  above_least : 0 < z → 2 ^ (f + z) ≤ s * 2 ^ x / 2 ^ k
  above_least h =
      let d : 52 + x ≡ f + z + k = omega arith in
      let c : 2 ^ 52 * 2 ^ x ≡ 2 ^ (f + z) * 2 ^ k = sym (pow-add 2 52 x) ∙ ap (λ (i : ℕ). 2 ^ i) d ∙ pow-add 2 (f + z) k in
      let l : 2 ^ (f + z) * 2 ^ k ≤ s * 2 ^ x = omega (arith, c, mul-le-mul_right (2 ^ x) (first (omega arith))) in
      let q = shr_mono k l in
      omega (arith, q, shl-shr (2 ^ (f + z)) k)

  below_next : s * 2 ^ x / 2 ^ k < 2 ^ suc (f + z)
  below_next =
      shr_lt {n = s * 2 ^ x} (suc (f + z)) k
      (omega (arith, shl_lt {a = s} 53 x short, pow_mono {i = 53 + x} {j = suc (f + z) + k} (omega arith)))

  pub packed_dropped : z ≤ n → packed n f (s * 2 ^ x / 2 ^ k) ≡ z * 2 ^ f + s / 2 ^ (k + z - x)
  packed_dropped l = by_exponent z refl
    where
      by_exponent : (y : ℕ) → z ≡ y → packed n f (s * 2 ^ x / 2 ^ k) ≡ z * 2 ^ f + s / 2 ^ (k + z - x)
      by_exponent zero q =
          let c : f + z ≡ f = omega arith in
          let g : s * 2 ^ x / 2 ^ k < 2 ^ suc f = subst (λ (i : ℕ). s * 2 ^ x / 2 ^ k < 2 ^ suc i) c below_next in
          let r : s * 2 ^ x / 2 ^ k ≡ s / 2 ^ (k + z - x) = sym (ap (λ (i : ℕ). s * 2 ^ x / 2 ^ k / 2 ^ i) q ∙ omega arith) ∙ dropped in
          packed_low f n (s * 2 ^ x / 2 ^ k) g ∙ r ∙ omega (arith, ap (λ (i : ℕ). i * 2 ^ f) q)
      by_exponent (suc y) q =
          packed_high f n z (s * 2 ^ x / 2 ^ k) l (above_least (omega arith)) below_next ∙ ap (λ (i : ℕ). z * 2 ^ f + i) dropped

pub narrow_ready : (w : Width) (x z k f : ℕ) → z ≡ x + 52 - (k + f) → f ≡ fraction_bits w → x ≤ k + z
narrow_ready w x z k f e g = omega (arith, (fraction_most w).0)

module _ (w : Width) (m x z k f : ℕ) (e : z ≡ x + 52 - (k + f)) (c : k ≡ scale_of w) (g : f ≡ fraction_bits w) (d : x ≡ m / 2 ^ 52 - 1) (h : m < 2 ^ 63) where
  shift_was : x ≡ shift_of 52 m
  unfolding shift_of
  shift_was = d

  parts : Shifted 52 m x (m - x * 2 ^ 52)
  parts = subst (λ (i : ℕ). Shifted 52 m i (m - i * 2 ^ 52)) (sym shift_was) (shifted 52 m)

  narrowed_as : narrowed w m ≡ z * 2 ^ fraction_bits w + (m - x * 2 ^ 52) / 2 ^ (k + z - x)
  unfolding narrowed fraction_bits
  narrowed_as =
      ap₂ (λ (v i : ℕ). packed 2048 (fraction_bits w) (v / 2 ^ i)) (worth_shifted 52 parts) (sym c)
      ∙ packed_dropped 2048 (fraction_bits w) k x (m - x * 2 ^ 52) z (fraction_most w).0 (omega (arith, (fraction_most w).1)) parts.short parts.first (omega arith)
      (omega (arith, (fraction_most w).1))

  -- then no exponent and no bit is left
  none_left : 63 < k + z - x → 0 ≡ narrowed w m
  none_left l =
      let q : z ≡ 0 = omega (arith, (fraction_most w).0) in
      let r = shr_lt {n = m - x * 2 ^ 52} 0 (k + z - x) (omega (arith, parts.short, pow_mono {i = 53} {j = 0 + (k + z - x)} (omega arith))) in
      omega (arith, narrowed_as, ap (λ (i : ℕ). i * 2 ^ fraction_bits w) q)

  module _ (step : ℕ) (q : step ≡ 2 ^ fraction_bits w) where
    exponents_most : z * step ≤ 2046 * 2 ^ 52
    unfolding scale_of least_of exponent_bits fraction_bits
    exponents_most = rw q (by_width w c g)
      where
        by_width : (v : Width) → k ≡ scale_of v → f ≡ fraction_bits v → z * 2 ^ fraction_bits v ≤ 2046 * 2 ^ 52
        by_width Half c g = omega arith
        by_width Single c g = omega arith
        by_width Double c g = omega arith

    rest_most : (m - x * 2 ^ 52) / 2 ^ (k + z - x) < 2 ^ 53
    rest_most = omega (arith, parts.short, shr_le (m - x * 2 ^ 52) (k + z - x))

    pub narrow_exponents_fit : Fits w64 (z * step)
    narrow_exponents_fit = record { fits = omega (arith, exponents_most) }

    pub narrow_fits : Fits w64 (z * step + (m - x * 2 ^ 52) / 2 ^ (k + z - x))
    narrow_fits = record { fits = omega (arith, exponents_most, rest_most) }

    pub narrow_done : z * step + (m - x * 2 ^ 52) / 2 ^ (k + z - x) ≡ narrowed w m
    narrow_done = sym (narrowed_as ∙ ap (λ (i : ℕ). z * i + (m - x * 2 ^ 52) / 2 ^ (k + z - x)) (sym q))

    narrow_most : narrowed w m < 2 ^ 63
    narrow_most = omega (arith, exponents_most, rest_most, narrow_done)

pub narrow_none : (x z k f : ℕ) → 63 < k + z - x → z ≡ x + 52 - (k + f) → (w : Width) (m : ℕ) → k ≡ scale_of w → f ≡ fraction_bits w → x ≡ m / 2 ^ 52 - 1 → m < 2 ^ 63
    → 0 ≡ narrowed w m
narrow_none x z k f l e w m c g d h = none_left w m x z k f e c g d h l

pub narrowed_most : (w : Width) (m : ℕ) → m < 2 ^ 63 → narrowed w m < 2 ^ 63
narrowed_most w m h =
    narrow_most w m (m / 2 ^ 52 - 1) (m / 2 ^ 52 - 1 + 52 - (scale_of w + fraction_bits w)) (scale_of w) (fraction_bits w) refl refl refl refl h (2 ^ fraction_bits w) refl

-- ---- the sign

sign_some : (w : Width) → 0 < sign_of w
unfolding sign_of
sign_some w = pow_pos (exponent_bits w + fraction_bits w)

module _ (w : Width) (bits sign : ℕ) (e : sign ≡ sign_of w) where
  pub sign_divides : 0 < sign
  sign_divides = omega (arith, sign_some w)

  pub magnitude_is : bits % sign ≡ magnitude w bits
  unfolding magnitude
  magnitude_is = ap (λ (i : ℕ). bits % i) e

  pub magnitude_ready : bits % sign < sign_of w
  magnitude_ready = rw magnitude_is (magnitude_unsigned w bits)

  pub finite_told : (infinity : ℕ) → infinity ≡ infinity_of w → ltb (bits % sign) infinity ≡ finite w bits
  unfolding finite
  finite_told infinity d = ap₂ ltb magnitude_is d

  module _ (r : ℕ) (d : r ≡ widened w (bits % sign)) where
    pub widened_fits : Fits w64 (bits / sign % 2 * 2 ^ 63 + r)
    widened_fits = record { fits = omega (arith, d, widened_unsigned w (bits % sign) magnitude_ready) }

    pub widened_told : bits / sign % 2 * 2 ^ 63 + r ≡ widened_bits w bits
    unfolding widened_bits sign_bit sign_of exponent_bits fraction_bits
    widened_told = ap₂ (λ (i j : ℕ). bits / i % 2 * 2 ^ 63 + j) e (d ∙ ap (widened w) magnitude_is)

-- q % 2 is the sign, which the code takes from the value
module _ (w : Width) (q sign : ℕ) (e : sign ≡ sign_of w) where
  carried : q % 2 * sign ≤ 2 ^ 63
  carried = omega (arith, sign_below w, mul-le-mul_right {m = q % 2} {n = 1} sign (omega arith))

  pub carried_fits : Fits w64 (q % 2 * sign)
  carried_fits = record { fits = omega (arith, carried) }

  module _ (r value : ℕ) (d : r ≡ narrowed w (value % 2 ^ 63)) where
    pub narrowed_fits : Fits w64 (q % 2 * sign + r)
    narrowed_fits = record { fits = omega (arith, carried, d, narrowed_most w (value % 2 ^ 63) (omega arith)) }

pub narrowed_told : (w : Width) (value sign r : ℕ) → sign ≡ sign_of w → r ≡ narrowed w (value % 2 ^ 63) → value / 2 ^ 63 % 2 * sign + r ≡ narrowed_bits w value
unfolding narrowed_bits magnitude sign_bit sign_of exponent_bits fraction_bits
narrowed_told w value sign r e d = ap₂ (λ (i j : ℕ). value / 2 ^ 63 % 2 * i + j) e d

-- ---- `has` and `least`

module _ (w : Width) (m n infinity : ℕ) (c : n ≡ narrowed w m) (e : infinity ≡ infinity_of w) where
  pub has_none : infinity ≤ n → false ≡ holds w m
  unfolding holds
  has_none h = rw (le-ltb (narrowed w m) (infinity_of w) (omega arith))

  pub narrowed_ready : n < infinity → n < sign_of w
  narrowed_ready h = omega (arith, infinity_most w)

  pub has_told : n < infinity → (r : ℕ) → r ≡ widened w n → eqb r m ≡ holds w m
  unfolding holds
  has_told h r d = rw (lt-ltb (narrowed w m) (infinity_of w) (omega arith), d, c)

-- ---- a float after its first byte: k are its bytes

-- each width has a first byte of its own
same_width : (v w : Width) → sameb the_type v w ≡ eqb (first_of v) (first_of w)
unfolding first_of
same_width Half Half = refl
same_width Half Single = refl
same_width Half Double = refl
same_width Single Half = refl
same_width Single Single = refl
same_width Single Double = refl
same_width Double Half = refl
same_width Double Single = refl
same_width Double Double = refl

module _ (s : List ℕ) (at k : ℕ) (w : Width) (f : k ≡ bytes_of w) where
  pub body_cut : (e : ℕ) → refused e ≡ big_endian_at s at k → refused e ≡ body_at s at w
  unfolding body_at
  body_cut e h = rw (← f, ← h)

  module _ (bits next : ℕ) (e : got bits next ≡ big_endian_at s at k) (t : Bool) (a : t ≡ finite w bits) where
    pub body_infinite : not t ≡ true → refused 19 ≡ body_at s at w
    unfolding body_at
    body_infinite h = rw (← f, ← e, ← a, not-true t h)

    module _ (b : not t ≡ false) (value : ℕ) (c : value ≡ widened_bits w bits) (u : Width) (d : u ≡ shortest (magnitude Double value)) (r : Bool) (g : r ≡ not (sameb the_type u w)) where
      same_first : (i : Bool) → sameb the_type u w ≡ i → eqb (first_of (shortest (magnitude Double (widened_bits w bits)))) (first_of w) ≡ i
      same_first i h = ap (λ (n : ℕ). eqb (first_of (shortest (magnitude Double n))) (first_of w)) (sym c) ∙ ap (λ (v : Width). eqb (first_of v) (first_of w)) (sym d) ∙ sym (same_width u w) ∙ h

      pub body_longer : r ≡ true → refused 18 ≡ body_at s at w
      unfolding body_at
      body_longer h = rw (← f, ← e, ← a, not-false t b, same_first false (not-true _ (sym g ∙ h)))

      pub body_shortest : r ≡ false → got value next ≡ body_at s at w
      unfolding body_at
      body_shortest h = rw (← f, ← e, ← a, not-false t b, same_first true (not-false _ (sym g ∙ h)), c)

-- ---- the whole float

module _ (s : List ℕ) (at : ℕ) where
  pub float_cut : (e : ℕ) → refused e ≡ byte_at s at → refused e ≡ float_at s at
  unfolding float_at
  float_cut e h = rw (← h)

  module _ (x next : ℕ) (e : got x next ≡ byte_at s at) (t : Bool) (a : t ≡ is_float x) where
    pub float_other : not t ≡ true → refused 18 ≡ float_at s at
    unfolding float_at
    float_other h = rw (← e, ← a, not-true t h)

    pub float_goes_on : not t ≡ false → (w : Width) → w ≡ width_by x → (y : Got ℕ) → y ≡ body_at s next w → y ≡ float_at s at
    unfolding float_at
    float_goes_on h w d y g = rw (← e, ← a, not-false t h, ← d) g
