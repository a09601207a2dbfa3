-- How many characters hold how many bytes, once over the width. Assumes nothing.
use Prim.Native.Nat.{ℕ, zero, suc, ◌+◌, ◌-◌, ◌*◌, ◌/◌, ◌^◌, ◌≤◌, ◌<◌}
use mathlib.Core.Path.{◌≡◌, sym, ap, ◌∙◌}
use mathlib.Core.Logic.{◌⊎◌, inl, inr}
use native.Mathlib.Nat.{mul-zero, mul-suc, pow-zero, pow-suc}
use native.Mathlib.Omega.{arith}
use lib.Pow.{pow-add}
use Rattle.text.specs.Text.{Form, characters, filling, leftover}
use Rattle.text.proofs.Forms.{Lawful}

pub pow_pow : (w c : ℕ) → (2 ^ w) ^ c ≡ 2 ^ (w * c)
pow_pow w zero = pow-zero (2 ^ w) ∙ sym (ap (λ (n : ℕ). 2 ^ n) (mul-zero w))
pow_pow w (suc c) =
    pow-suc (2 ^ w) c
    ∙ ap (λ (n : ℕ). n * 2 ^ w) (pow_pow w c)
    ∙ sym (ap (λ (n : ℕ). 2 ^ n) (mul-suc w c) ∙ pow-add 2 (w * c) w)

rounded_up : (w n : ℕ) → (w ≡ 5) ⊎ (w ≡ 6) → (8 * n ≤ w * ((8 * n + (w - 1)) / w)) × (w * ((8 * n + (w - 1)) / w) < 8 * n + w)
rounded_up w n (inl e) = rw e (omega arith)
rounded_up w n (inr e) = rw e (omega arith)

rounded_once : (w n c : ℕ) → (w ≡ 5) ⊎ (w ≡ 6) → 8 * n ≤ w * c → w * c < 8 * n + w → (8 * n + (w - 1)) / w ≡ c
rounded_once w n c (inl e) h l =
    let x : 8 * n ≤ 5 * c = rw e at h in
    let y : 5 * c < 8 * n + 5 = rw e at l in
    rw e (omega arith)
rounded_once w n c (inr e) h l =
    let x : 8 * n ≤ 6 * c = rw e at h in
    let y : 6 * c < 8 * n + 6 = rw e at l in
    rw e (omega arith)

pub narrow_bounds : (w : ℕ) → (w ≡ 5) ⊎ (w ≡ 6) → (5 ≤ w) × (w ≤ 6)
narrow_bounds w (inl e) = omega arith
narrow_bounds w (inr e) = omega arith

module _ (f : Form) (law : Lawful f) where
  pub width_bounds : (5 ≤ f.width) × (f.width ≤ 6)
  width_bounds = narrow_bounds f.width law.narrow

  -- the last character is not empty: fewer bits fill it than it has
  pub filling_lt : (n : ℕ) → filling f n < f.width
  unfolding filling characters
  filling_lt n = omega (arith, rounded_up f.width n law.narrow)

  pub filled : (n : ℕ) → f.width * characters f n ≡ 8 * n + filling f n
  unfolding filling characters
  filled n = omega (arith, rounded_up f.width n law.narrow)

  pub leftover_is : (n c k : ℕ) → f.width * c ≡ 8 * n + k → k < 8 → (leftover f c ≡ k) × (f.width * c / 8 ≡ n)
  unfolding leftover
  leftover_is n c k e h = (omega arith, omega arith)

  -- the count of characters is the one that a writer makes
  pub characters_is : (n c k : ℕ) → f.width * c ≡ 8 * n + k → k < f.width → (characters f n ≡ c) × (filling f n ≡ k)
  unfolding filling characters
  characters_is n c k e h =
      let r : (8 * n + (f.width - 1)) / f.width ≡ c = rounded_once f.width n c law.narrow (omega arith) (omega arith) in
      (r, rw r (omega arith))
