-- How many bytes a number takes: bounds, and the length from its highest set bit. Assumes nothing.
use Prim.Native.Nat.{ℕ, zero, suc, ◌+◌, ◌-◌, ◌*◌, ◌/◌, ◌^◌, ◌<◌, ◌≤◌}
use mathlib.Core.Path.{◌≡◌, sym, ap, ◌∙◌, subst}
use mathlib.Core.Logic.{⊎_elim}
use mathlib.Core.List.{List, [], ◌∷◌}
use native.Mathlib.Nat.{pow-suc}
use native.Mathlib.Omega.{arith}
use lib.Count.{count_leading_zeros, leading_top}
use lib.ListN.{length}
use lib.Pow.{shr_lt, shr_mono, shl-shr, pow_mono, pow-add}
use Rattle.wire.proofs.Cases.{lt_or_le}
use Rattle.varint.specs.Varint.{sevens, varint}
use Rattle.varint.proofs.Sevens.{sevens_last, sevens_ind}

-- ---- bounds

pub sevens_length : (p n : ℕ) → (1 ≤ length (sevens p n)) × (length (sevens p n) ≤ p + 1)
sevens_length =
    sevens_ind (λ (p n : ℕ) (bs : List ℕ). (1 ≤ length bs) × (length bs ≤ p + 1)) (λ p n h. omega arith) (λ n h. omega arith)
    (λ p n h rest. omega arith)

-- a number of k + 1 sevens of bits takes k + 1 bytes at most
pub sevens_length_below : (p n k : ℕ) → n < 128 ^ suc k → length (sevens p n) ≤ k + 1
sevens_length_below =
    sevens_ind (λ (p n : ℕ) (bs : List ℕ). (k : ℕ) → n < 128 ^ suc k → length bs ≤ k + 1) (λ p n h k l. omega arith) (λ n h k l. omega arith) more
  where
    more : (p n : ℕ) → 128 ≤ n → ((k : ℕ) → n / 128 < 128 ^ suc k → length (sevens p (n / 128)) ≤ k + 1)
        → (k : ℕ) → n < 128 ^ suc k → suc (length (sevens p (n / 128))) ≤ k + 1
    more p n h rest zero l = absurd (omega arith)
    more p n h rest (suc k) l = omega (arith, rest k (omega (arith, pow-suc 128 (suc k))))

pub varint_length : (n : ℕ) → (1 ≤ length (varint n)) × (length (varint n) ≤ 10)
unfolding varint
varint_length n = sevens_length 9 n

pub varint_one : (n : ℕ) → n < 128 → varint n ≡ n ∷ []
unfolding varint
varint_one n h = sevens_last 9 n h

pub varint_length_one : (n : ℕ) → n < 128 → length (varint n) ≡ 1
varint_length_one n h = ap length (varint_one n h)

pub varint_length_two : (n : ℕ) → n < 16384 → length (varint n) ≤ 2
unfolding varint
varint_length_two n h = sevens_length_below 9 n 1 h

-- ---- the highest set bit, at place j

-- seven places lower for each byte taken off
seven_lower : (j n : ℕ) → 7 ≤ j → 2 ^ j ≤ n → n < 2 ^ suc j → (2 ^ (j - 7) ≤ n / 128) × (n / 128 < 2 ^ suc (j - 7))
seven_lower j n k l u =
    let e : j - 7 + 7 ≡ j = omega arith in
    let e' : suc (j - 7) + 7 ≡ suc j = omega arith in
    let lo : 2 ^ (j - 7) * 2 ^ 7 / 2 ^ 7 ≤ n / 2 ^ 7 = shr_mono 7 (subst (λ (m : ℕ). m ≤ n) (ap (λ (m : ℕ). 2 ^ m) (sym e) ∙ pow-add 2 (j - 7) 7) l) in
    (rw (shl-shr (2 ^ (j - 7)) 7) at lo, shr_lt (suc (j - 7)) 7 (subst (λ (m : ℕ). n < 2 ^ m) (sym e') u))

-- the place of the highest set bit says whether there is one byte
below_seven : (j n : ℕ) → 2 ^ j ≤ n → n < 128 → j < 7
below_seven j n l h = ⊎_elim (λ (k : j < 7). k) (λ (k : 7 ≤ j). absurd (omega (arith, pow_mono k))) (lt_or_le j 7)

from_seven : (j n : ℕ) → n < 2 ^ suc j → 128 ≤ n → 7 ≤ j
from_seven j n u h = ⊎_elim (λ (k : suc j ≤ 7). absurd (omega (arith, pow_mono k))) (λ (k : 7 ≤ j). k) (lt_or_le j 7)

pub sevens_length_from_highest_bit : (p n j : ℕ) → 2 ^ j ≤ n → n < 2 ^ suc j → j < 7 * p + 7 → length (sevens p n) ≡ j / 7 + 1
sevens_length_from_highest_bit =
    sevens_ind (λ (p n : ℕ) (bs : List ℕ). (j : ℕ) → 2 ^ j ≤ n → n < 2 ^ suc j → j < 7 * p + 7 → length bs ≡ j / 7 + 1)
    (λ p n h j l u b. omega (arith, below_seven j n l h))
    (λ n h j l u b. absurd (omega (arith, from_seven j n u h)))
    (λ p n h rest j l u b.
    let k = from_seven j n u h in
    let t = seven_lower j n k l u in
    omega (arith, rest (j - 7) t.0 t.1 (omega arith)))

-- a number above 0 has a set bit
pub leading_zeros_below : (n : ℕ) → 0 < n → n < 2 ^ 64 → count_leading_zeros 64 n ≤ 63
leading_zeros_below n z b = omega (arith, (leading_top 64 n z b).1)

-- the leading zeros of a u64 give the length of its sevens
pub varint_length_from_leading_zeros : (n : ℕ) → 0 < n → n < 2 ^ 64 → (63 - count_leading_zeros 64 n) / 7 + 1 ≡ length (varint n)
unfolding varint
varint_length_from_leading_zeros n z b =
    let t = leading_top 64 n z b in
    let e = sevens_length_from_highest_bit 9 n t.0 t.2 t.3 (omega (arith, t.1)) in
    omega (arith, t.1, e)
