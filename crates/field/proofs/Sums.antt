-- Laws of the sum of elements, which is its own inverse. Assumes nothing.
use mathlib.Core.Path.{◌≡◌, refl, sym, ap, ◌∙◌}
use Prim.Native.Nat.{ℕ, zero, suc, ◌/◌, ◌^◌, ◌<◌}
use native.Mathlib.Omega.{arith}
use lib.Arith.{bin_ind}
use lib.Bits.{bit_xor, xor_shr, xor_add_and, xor_comm, xor_self, xor_zero_l, xor_zero_r, xor_lt}
use Rattle.field.specs.Field.{plus}

-- halves by induction; the last digit is that of the sum of numbers, since `a + b` is `a ^ b` and
-- twice `a & b`
pub plus_assoc : (a b c : ℕ) → plus (plus a b) c ≡ plus a (plus b c)
plus_assoc =
    bin_ind (λ (n : ℕ). (b c : ℕ) → bit_xor (bit_xor n b) c ≡ bit_xor n (bit_xor b c)) (λ b c. refl)
    (λ n ih b c.
    let half : bit_xor (bit_xor n b) c / 2 ≡ bit_xor n (bit_xor b c) / 2 =
    xor_shr (bit_xor n b) c 1 ∙ ap (λ (x : ℕ). bit_xor x (c / 2)) (xor_shr n b 1) ∙ ih (b / 2) (c / 2)
    ∙ sym (xor_shr n (bit_xor b c) 1 ∙ ap (bit_xor (n / 2)) (xor_shr b c 1)) in
    omega (arith, half, xor_add_and n b, xor_add_and b c, xor_add_and (bit_xor n b) c, xor_add_and n (bit_xor b c)))

pub plus_comm : (a b : ℕ) → plus a b ≡ plus b a
plus_comm = xor_comm

pub plus_self : (a : ℕ) → plus a a ≡ 0
plus_self = xor_self

pub plus_none : (a : ℕ) → plus 0 a ≡ a
plus_none = xor_zero_l

pub none_plus : (a : ℕ) → plus a 0 ≡ a
none_plus = xor_zero_r

-- what is added twice is gone
pub plus_twice : (a b : ℕ) → plus (plus a b) b ≡ a
plus_twice a b = plus_assoc a b b ∙ ap (plus a) (plus_self b) ∙ none_plus a

-- the middle two of four exchanged
pub plus_four : (a b c d : ℕ) → plus (plus a b) (plus c d) ≡ plus (plus a c) (plus b d)
plus_four a b c d =
    plus_assoc a b (plus c d)
    ∙ ap (plus a) (sym (plus_assoc b c d) ∙ ap (λ (x : ℕ). plus x d) (plus_comm b c) ∙ plus_assoc c b d)
    ∙ sym (plus_assoc a c (plus b d))

pub good_plus : (a b : ℕ) → a < 2 ^ 128 → b < 2 ^ 128 → plus a b < 2 ^ 128
good_plus a b = xor_lt 128 a b

-- two points that differ, differ by an element that has an inverse
pub apart : (x y : ℕ) → x < 256 → y < 256 → (x ≡ y → ⊥) → (0 < bit_xor x y) × (bit_xor x y < 256)
apart x y hx hy ne = (some (bit_xor x y) refl, xor_lt 8 x y hx hy)
  where
    some : (k : ℕ) → bit_xor x y ≡ k → 0 < k
    some zero e = absurd (ne (sym (plus_twice x y) ∙ ap (λ (k : ℕ). bit_xor k y) e))
    some (suc k) e = omega arith
