-- Elements as two halves: there and back, and what the code makes of the halves. Assumes nothing.
use mathlib.Core.Path.{◌≡◌, refl, sym, ap, ap₂, ◌∙◌}
use mathlib.Core.List.{List, [], ◌∷◌}
use Prim.Native.Nat.{ℕ, zero, suc, ◌+◌, ◌*◌, ◌/◌, ◌%◌, ◌^◌, ◌<◌}
use native.Mathlib.Nat.{mod-lt, zero-add}
use native.Mathlib.Omega.{arith}
use lib.Bits.{bit_xor, xor_block, xor_shifted, xor_zero_r, xor_lt}
use lib.Pow.{split, high, low, pow_pos, shr-shr, shr_lt, shr_mod, mod-pow-add}
use Rattle.field.specs.Field.{plus, times_x, pick}
use Rattle.field.specs.Element.{joined, halves}

pub joined_halves : (a : ℕ) → joined (halves a) ≡ a
joined_halves a = split a 64

-- the halves of a number that is put together of two
pub two_halves : (h l : ℕ) → l < 2 ^ 64 → halves (h * 2 ^ 64 + l) ≡ h ∷ l ∷ []
two_halves h l g = ap₂ {C = List ℕ} (λ (x y : ℕ). x ∷ y ∷ []) (high h 64 g) (low h 64 g)

-- ---- what the code makes

pub sum_halves : (h l g k : ℕ) → l < 2 ^ 64 → k < 2 ^ 64
    → bit_xor h g ∷ bit_xor l k ∷ [] ≡ halves (plus (h * 2 ^ 64 + l) (g * 2 ^ 64 + k))
sum_halves h l g k a b =
    sym (ap halves (xor_block 64 h g l k a b) ∙ two_halves (bit_xor h g) (bit_xor l k) (xor_lt 64 l k a b))

-- a half moved up by one: its highest bit is gone, and a bit that comes in below stands in a free
-- place
half_up : (h b : ℕ) → b < 2 → bit_xor (h * 2 % 2 ^ 64) b ≡ (h * 2 + b) % 2 ^ 64
half_up h b g =
    let even : h * 2 % 2 ^ 64 ≡ h % 2 ^ 63 * 2 = omega arith in
    let whole : h * 2 + b ≡ h / 2 ^ 63 * 2 ^ 64 + (h % 2 ^ 63 * 2 + b) = omega arith in
    ap (λ (x : ℕ). bit_xor x b) even ∙ xor_shifted (h % 2 ^ 63) 1 b g
    ∙ sym (ap (λ (x : ℕ). x % 2 ^ 64) whole ∙ low (h / 2 ^ 63) 64 (omega arith))

-- both halves moved up
both_up : (h l : ℕ) → l < 2 ^ 64
    → (h * 2 ^ 64 + l) * 2 % 2 ^ 128 ≡ bit_xor (h * 2 % 2 ^ 64) (l / 2 ^ 63) * 2 ^ 64 + l * 2 % 2 ^ 64
both_up h l g =
    let twice : (h * 2 ^ 64 + l) * 2 ≡ (h * 2 + l / 2 ^ 63) * 2 ^ 64 + l * 2 % 2 ^ 64 = omega arith in
    let r : l * 2 % 2 ^ 64 < 2 ^ 64 = mod-lt (l * 2) (pow_pos 64) in
    ap (λ (x : ℕ). x % 2 ^ 128) twice
    ∙ mod-pow-add ((h * 2 + l / 2 ^ 63) * 2 ^ 64 + l * 2 % 2 ^ 64) 64 64
    ∙ ap₂ (λ (x y : ℕ). x % 2 ^ 64 * 2 ^ 64 + y) (high (h * 2 + l / 2 ^ 63) 64 r) (low (h * 2 + l / 2 ^ 63) 64 r)
    ∙ ap (λ (x : ℕ). x * 2 ^ 64 + l * 2 % 2 ^ 64) (sym (half_up h (l / 2 ^ 63) (shr_lt 1 63 g)))

-- the bit that leaves
top_bit : (h l : ℕ) → h < 2 ^ 64 → l < 2 ^ 64 → (h * 2 ^ 64 + l) / 2 ^ 127 % 2 ≡ h / 2 ^ 63
top_bit h l g k =
    ap (λ (x : ℕ). x % 2) (sym (shr-shr (h * 2 ^ 64 + l) 64 63) ∙ ap (λ (x : ℕ). x / 2 ^ 63) (high h 64 k)) ∙ shr_mod 1 63 g

pub double_halves : (h l : ℕ) → h < 2 ^ 64 → l < 2 ^ 64
    → bit_xor (h * 2 % 2 ^ 64) (l / 2 ^ 63) ∷ bit_xor (l * 2 % 2 ^ 64) (h / 2 ^ 63 * 0x87) ∷ [] ≡ halves (times_x (h * 2 ^ 64 + l))
unfolding times_x
double_halves h l a b =
    let up = bit_xor (h * 2 % 2 ^ 64) (l / 2 ^ 63) in
    let rest = l * 2 % 2 ^ 64 in
    let back = h / 2 ^ 63 * 0x87 in
    let k : back < 2 ^ 64 = omega arith in
    let r : rest < 2 ^ 64 = mod-lt (l * 2) (pow_pos 64) in
    sym (ap halves (ap₂ bit_xor (both_up h l b) (ap (λ (x : ℕ). x * 0x87) (top_bit h l a b) ∙ sym (zero-add back))
    ∙ xor_block 64 up 0 rest back r k
    ∙ ap (λ (x : ℕ). x * 2 ^ 64 + bit_xor rest back) (xor_zero_r up))
    ∙ two_halves up (bit_xor rest back) (xor_lt 64 rest back r k))
