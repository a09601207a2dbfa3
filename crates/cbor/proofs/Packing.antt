-- A magnitude and what it is worth determine each other: the fraction has f bits, and v is counted
-- in the least number of the width. Assumes nothing.
use Prim.Native.Nat.{ℕ, zero, suc, ◌+◌, ◌-◌, ◌*◌, ◌/◌, ◌%◌, ◌^◌, ◌<◌, ◌≤◌}
use mathlib.Core.Path.{◌≡◌, refl, sym, ap, ◌∙◌, subst}
use mathlib.Core.Logic.{⊎_elim}
use native.Mathlib.Nat.{pow-suc, mul_assoc, suc-mul, mod-lt, mul-le-mul_right}
use native.Mathlib.Numerals.{one-add}
use native.Mathlib.Omega.{arith}
use borrow.Author.Tests.{lt-ltb, le-ltb}
use lib.Pow.{pow-add, pow_mono, pow_pos, shl_lt, shl-shr, shr-shr, high, split}
use Rattle.wire.proofs.Cases.{lt_or_le}
use Rattle.cbor.specs.Float.{shift_of, worth, packed}

-- s shifted by x places, with its first one before the f bits of the fraction, or by none: then m
-- is worth s * 2 ^ x
pub record Shifted (f m x s : ℕ) : Type 0 where
  pub whole : m ≡ x * 2 ^ f + s
  pub short : s < 2 ^ suc f
  pub first : 0 < x → 2 ^ f ≤ s

module _ (f : ℕ) where
  -- no shift is needed
  pub unshifted : (m : ℕ) → m < 2 ^ suc f → Shifted f m 0 m
  unshifted m h = record { whole = omega arith; short = h; first = λ z. absurd (omega arith) }

  pub packed_low : (n v : ℕ) → v < 2 ^ suc f → packed n f v ≡ v
  unfolding packed
  packed_low zero v h = refl
  packed_low (suc n) v h = rw (lt-ltb v (2 ^ suc f) h)

  pub packed_more : (n v : ℕ) → 2 ^ suc f ≤ v → packed (suc n) f v ≡ 2 ^ f + packed n f (v / 2)
  unfolding packed
  packed_more n v h = rw (le-ltb v (2 ^ suc f) h)

  -- z halvings are needed
  pub packed_high : (n z v : ℕ) → z ≤ n → 2 ^ (f + z) ≤ v → v < 2 ^ suc (f + z) → packed n f v ≡ z * 2 ^ f + v / 2 ^ z
  packed_high n zero v k l h =
      let e : f + 0 ≡ f = omega arith in packed_low n v (rw e at h) ∙ omega arith
  packed_high zero (suc z) v k l h = absurd (omega arith)
  packed_high (suc n) (suc z) v k l h =
      let e : f + suc z ≡ suc (f + z) = omega arith in
      let a : 2 ^ suc (f + z) ≤ v = subst (λ (i : ℕ). 2 ^ i ≤ v) e l in
      let b : v < 2 ^ suc (suc (f + z)) = subst (λ (i : ℕ). v < 2 ^ suc i) e h in
      let p = pow-suc 2 (f + z) in
      let q = pow-suc 2 (suc (f + z)) in
      let r = packed_high n z (v / 2) (omega arith) (omega arith) (omega arith) in
      let d : v / 2 / 2 ^ z ≡ v / 2 ^ suc z = shr-shr v 1 z ∙ ap (λ (i : ℕ). v / 2 ^ i) (one-add z) in
      packed_more n v (omega (arith, pow_mono {i = suc f} {j = suc (f + z)} (omega arith)))
      ∙ (omega (arith, r, d, suc-mul z (2 ^ f)))

  -- the shift is the exponent above 1
  pub shifted : (m : ℕ) → Shifted f m (shift_of f m) (m - shift_of f m * 2 ^ f)
  unfolding shift_of
  shifted m = by_exponent (m / 2 ^ f) refl
    where
      by_exponent : (q : ℕ) → m / 2 ^ f ≡ q → Shifted f m (m / 2 ^ f - 1) (m - (m / 2 ^ f - 1) * 2 ^ f)
      by_exponent zero e =
          rw e (record {
            whole = omega arith;
            short = omega (arith, split m f, mod-lt m (pow_pos f), pow-suc 2 f, ap (λ (i : ℕ). i * 2 ^ f) e);
            first = λ z. absurd (omega arith);
          })
      by_exponent (suc q) e =
          let d : suc q * 2 ^ f + m % 2 ^ f ≡ m = ap (λ (i : ℕ). i * 2 ^ f + m % 2 ^ f) (sym e) ∙ split m f in
          let l = mod-lt m (pow_pos f) in
          let p = suc-mul q (2 ^ f) in
          let c : suc q - 1 ≡ q = omega arith in
          rw (e, c) (record {
            whole = omega arith;
            short = omega (arith, pow-suc 2 f);
            first = λ z. omega arith;
          })

  module _ {m x s : ℕ} (h : Shifted f m x s) where
    -- there is one such shift
    shift_once : shift_of f m ≡ x
    unfolding shift_of
    shift_once = by_shift x refl
      where
        by_shift : (y : ℕ) → x ≡ y → m / 2 ^ f - 1 ≡ x
        by_shift zero e =
            ⊎_elim (λ (l : s < 2 ^ f).
            let q : m / 2 ^ f ≡ 0 = ap (λ (i : ℕ). i / 2 ^ f) (h.whole ∙ ap (λ (i : ℕ). i * 2 ^ f + s) e) ∙ high 0 f l in omega arith)
            (λ (l : 2 ^ f ≤ s).
            let c : 0 * 2 ^ f + s ≡ 1 * 2 ^ f + (s - 2 ^ f) = omega arith in
            let r : s - 2 ^ f < 2 ^ f = omega (arith, h.short, pow-suc 2 f) in
            let q : m / 2 ^ f ≡ 1 = ap (λ (i : ℕ). i / 2 ^ f) (h.whole ∙ ap (λ (i : ℕ). i * 2 ^ f + s) e ∙ c) ∙ high 1 f r in omega arith)
            (lt_or_le s (2 ^ f))
        by_shift (suc y) e =
            let l = h.first (omega arith) in
            let r : s - 2 ^ f < 2 ^ f = omega (arith, h.short, pow-suc 2 f) in
            let c : m ≡ suc x * 2 ^ f + (s - 2 ^ f) = omega (arith, h.whole, suc-mul x (2 ^ f)) in
            let q : m / 2 ^ f ≡ suc x = ap (λ (i : ℕ). i / 2 ^ f) c ∙ high (suc x) f r in
            omega arith

    pub worth_shifted : worth f m ≡ s * 2 ^ x
    unfolding worth
    worth_shifted =
        let e : shift_of f m ≡ x = shift_once in
        let d : m - x * 2 ^ f ≡ s = omega (arith, h.whole) in
        rw (e, d)

    pub packed_shifted : (n : ℕ) → x ≤ n → packed n f (s * 2 ^ x) ≡ m
    packed_shifted n l = by_shift x refl
      where
        by_shift : (y : ℕ) → x ≡ y → packed n f (s * 2 ^ x) ≡ m
        by_shift zero e =
            ap (λ (i : ℕ). packed n f (s * 2 ^ i)) e ∙ packed_low n (s * 1) (omega (arith, h.short)) ∙ omega (arith, h.whole, ap (λ (i : ℕ). i * 2 ^ f) e)
        by_shift (suc y) e =
            let a = h.first (omega arith) in
            let lo : 2 ^ (f + x) ≤ s * 2 ^ x = rw (pow-add 2 f x) (omega (arith, mul-le-mul_right (2 ^ x) a)) in
            let c : suc f + x ≡ suc (f + x) = omega arith in
            let hi : s * 2 ^ x < 2 ^ (suc f + x) = shl_lt (suc f) x h.short in
            packed_high n x (s * 2 ^ x) l lo (rw c at hi) ∙ ap (λ (i : ℕ). x * 2 ^ f + i) (shl-shr s x) ∙ sym h.whole

  -- ---- both ways

  -- what a magnitude is worth gives it back
  pub packed_worth : (n m : ℕ) → shift_of f m ≤ n → packed n f (worth f m) ≡ m
  packed_worth n m l = let h = shifted m in ap (packed n f) (worth_shifted h) ∙ packed_shifted h n l

  packed_least : (n v : ℕ) → 2 ^ f ≤ v → 2 ^ f ≤ packed n f v
  unfolding packed
  packed_least zero v h = h
  packed_least (suc n) v h =
      ⊎_elim (λ (l : v < 2 ^ suc f). rw (lt-ltb v (2 ^ suc f) l) h) (λ (l : 2 ^ suc f ≤ v). rw (le-ltb v (2 ^ suc f) l) (omega arith)) (lt_or_le v (2 ^ suc f))

  -- one more exponent is worth twice as much
  worth_next : (m : ℕ) → 2 ^ f ≤ m → worth f (2 ^ f + m) ≡ worth f m * 2
  worth_next m l =
      let h : Shifted f m (shift_of f m) (m - shift_of f m * 2 ^ f) = shifted m in
      let g : Shifted f (2 ^ f + m) (suc (shift_of f m)) (m - shift_of f m * 2 ^ f) = record {
        whole = omega (arith, h.whole, suc-mul (shift_of f m) (2 ^ f));
        short = h.short;
        first = λ z. one_before (shift_of f m) (m - shift_of f m * 2 ^ f) h;
      } in
      worth_shifted g ∙ ap (λ (i : ℕ). (m - shift_of f m * 2 ^ f) * i) (pow-suc 2 (shift_of f m)) ∙ sym (mul_assoc (m - shift_of f m * 2 ^ f) (2 ^ shift_of f m) 2)
      ∙ ap (λ (i : ℕ). i * 2) (sym (worth_shifted h))
    where
      one_before : (x s : ℕ) → Shifted f m x s → 2 ^ f ≤ s
      one_before zero s h = omega (arith, h.whole)
      one_before (suc x) s h = h.first (omega arith)

  -- no bit is lost of what f + 1 bits hold but for a shift
  pub worth_packed : (n x s : ℕ) → x ≤ n → s < 2 ^ suc f → worth f (packed n f (s * 2 ^ x)) ≡ s * 2 ^ x
  worth_packed n x s k h = ⊎_elim (low n x) (high_bits n x k) (lt_or_le (s * 2 ^ x) (2 ^ suc f))
    where
      low : (n x : ℕ) → s * 2 ^ x < 2 ^ suc f → worth f (packed n f (s * 2 ^ x)) ≡ s * 2 ^ x
      low n x l =
          ap (worth f) (packed_low n (s * 2 ^ x) l) ∙ worth_shifted (unshifted (s * 2 ^ x) l) ∙ omega arith

      high_bits : (n x : ℕ) → x ≤ n → 2 ^ suc f ≤ s * 2 ^ x → worth f (packed n f (s * 2 ^ x)) ≡ s * 2 ^ x
      high_bits n zero k l = absurd (omega arith)
      high_bits zero (suc x) k l = absurd (omega arith)
      high_bits (suc n) (suc x) k l =
          let e : s * 2 ^ suc x ≡ s * 2 ^ x * 2 = ap (λ (i : ℕ). s * i) (pow-suc 2 x) ∙ sym (mul_assoc s (2 ^ x) 2) in
          let d : s * 2 ^ suc x / 2 ≡ s * 2 ^ x = omega arith in
          let p = pow-suc 2 f in
          ap (worth f) (packed_more n (s * 2 ^ suc x) l ∙ ap (λ (i : ℕ). 2 ^ f + packed n f i) d)
          ∙ worth_next (packed n f (s * 2 ^ x)) (packed_least n (s * 2 ^ x) (omega arith))
          ∙ ap (λ (i : ℕ). i * 2) (⊎_elim (low n x) (high_bits n x (omega arith)) (lt_or_le (s * 2 ^ x) (2 ^ suc f)))
          ∙ sym e

  -- a bound on the worth is one on the exponent
  pub packed_below : (n z v : ℕ) → z ≤ n → v < 2 ^ suc (f + z) → packed n f v < (z + 2) * 2 ^ f
  packed_below n zero v k h =
      let e : f + 0 ≡ f = omega arith in
      let l : v < 2 ^ suc f = rw e at h in
      omega (arith, packed_low n v l, pow-suc 2 f)
  packed_below zero (suc z) v k h = absurd (omega arith)
  packed_below (suc n) (suc z) v k h =
      ⊎_elim (λ (l : v < 2 ^ suc f). omega (arith, packed_low (suc n) v l, pow-suc 2 f, mul-le-mul_right {m = 2} {n = suc z + 2} (2 ^ f) (omega arith))) (λ (l : 2 ^ suc f ≤ v).
      let e : f + suc z ≡ suc (f + z) = omega arith in
      let b : v < 2 ^ suc (suc (f + z)) = rw e at h in
      let r = packed_below n z (v / 2) (omega arith) (omega (arith, pow-suc 2 (suc (f + z)))) in
      let c : suc z + 2 ≡ suc (z + 2) = omega arith in
      rw c (omega (arith, r, packed_more n v l, suc-mul (z + 2) (2 ^ f))))
      (lt_or_le v (2 ^ suc f))

-- ---- a number of f bits of fraction, in g: its least is 2 ^ k times that of the other

module _ (n f g k m : ℕ) where
  pub rescaled : worth f m * 2 ^ k ≡ (m - shift_of f m * 2 ^ f) * 2 ^ (shift_of f m + k)
  rescaled =
      ap (λ (i : ℕ). i * 2 ^ k) (worth_shifted f (shifted f m))
      ∙ mul_assoc (m - shift_of f m * 2 ^ f) (2 ^ shift_of f m) (2 ^ k)
      ∙ ap (λ (i : ℕ). (m - shift_of f m * 2 ^ f) * i) (sym (pow-add 2 (shift_of f m) k))

  -- it is worth the same there
  pub rescaled_worth : f ≤ g → shift_of f m + k ≤ n → worth g (packed n g (worth f m * 2 ^ k)) ≡ worth f m * 2 ^ k
  rescaled_worth l h =
      let b : m - shift_of f m * 2 ^ f < 2 ^ suc g = omega (arith, (shifted f m).short, pow_mono {i = suc f} {j = suc g} (omega arith)) in
      ap (λ (i : ℕ). worth g (packed n g i)) rescaled ∙ worth_packed g n (shift_of f m + k) (m - shift_of f m * 2 ^ f) h b ∙ sym rescaled

  -- and its exponent is bounded
  pub rescaled_below : (z : ℕ) → z ≤ n → f + shift_of f m + k ≤ g + z → packed n g (worth f m * 2 ^ k) < (z + 2) * 2 ^ g
  rescaled_below z l h =
      let b = shl_lt {a = m - shift_of f m * 2 ^ f} (suc f) (shift_of f m + k) (shifted f m).short in
      packed_below g n z (worth f m * 2 ^ k) l
      (rw rescaled (omega (arith, b, pow_mono {i = suc f + (shift_of f m + k)} {j = suc (g + z)} (omega arith))))
