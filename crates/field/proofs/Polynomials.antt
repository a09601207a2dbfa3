-- The polynomial of a number's bits, times an element. Such a multiplication commutes with every
-- linear map that commutes with the multiplication by x, so with every other such multiplication:
-- the laws of the product follow from that. Assumes nothing.
use mathlib.Core.Path.{◌≡◌, refl, sym, ap, ap₂, ◌∙◌}
use Prim.Native.Nat.{ℕ, zero, suc, ◌+◌, ◌*◌, ◌/◌, ◌%◌, ◌^◌, ◌≤◌, ◌<◌}
use native.Mathlib.Nat.{mod-lt, lt_of_lt_of_le, le_of_suc-le-suc, zero-lt-suc, zero-add, suc-add, add-zero, div-one, div-eq_of_lt, div-add-mod', div-lt_iff_lt-mul, pow-suc}
use native.Mathlib.Numerals.{add-one, one-add}
use native.Mathlib.Omega.{arith}
use lib.Bits.{bit_xor, xor_shr, xor_mod, xor_block, xor_shifted, xor_zero_r, xor_lt, block_half, block_odd}
use lib.Dec.{lit≤}
use lib.Pow.{pow_mono, pow_pos, shl_exact, shr-shr}
use Rattle.field.specs.Field.{plus, times_x, pick, times}
use Rattle.field.proofs.Sums.{plus_assoc, plus_comm, plus_self, none_plus, plus_four, good_plus}

two_pos : zero < 2
two_pos = zero-lt-suc 1

half_lt : {a : ℕ} (k : ℕ) → a < 2 ^ suc k → a / 2 < 2 ^ k
half_lt {a} k h = (div-lt_iff_lt-mul two_pos).1 (rw (pow-suc 2 k) at h)

-- ---- times x

xor_double : (a b : ℕ) → bit_xor a b * 2 ≡ bit_xor (a * 2) (b * 2)
xor_double a b =
    sym (ap₂ bit_xor (sym (add-zero (a * 2))) (sym (add-zero (b * 2))) ∙ xor_block 1 a b 0 0 two_pos two_pos ∙ add-zero (bit_xor a b * 2))

up_plus : (a b : ℕ) → bit_xor a b * 2 % 2 ^ 128 ≡ bit_xor (a * 2 % 2 ^ 128) (b * 2 % 2 ^ 128)
up_plus a b = ap (λ (x : ℕ). x % 2 ^ 128) (xor_double a b) ∙ xor_mod (a * 2) (b * 2) 128

bit_plus : (p q : ℕ) → p < 2 → q < 2 → bit_xor p q * 0x87 ≡ bit_xor (p * 0x87) (q * 0x87)
bit_plus zero q hp hq = refl
bit_plus (suc zero) zero hp hq = refl
bit_plus (suc zero) (suc zero) hp hq = refl
bit_plus (suc zero) (suc (suc q)) hp hq = absurd (omega arith)
bit_plus (suc (suc p)) q hp hq = absurd (omega arith)

back_plus : (a b : ℕ) → bit_xor a b / 2 ^ 127 % 2 * 0x87 ≡ bit_xor (a / 2 ^ 127 % 2 * 0x87) (b / 2 ^ 127 % 2 * 0x87)
back_plus a b =
    ap (λ (x : ℕ). x % 2 * 0x87) (xor_shr a b 127)
    ∙ ap (λ (x : ℕ). x * 0x87) (xor_mod (a / 2 ^ 127) (b / 2 ^ 127) 1)
    ∙ bit_plus (a / 2 ^ 127 % 2) (b / 2 ^ 127 % 2) (mod-lt (a / 2 ^ 127) two_pos) (mod-lt (b / 2 ^ 127) two_pos)

pub times_x_plus : (a b : ℕ) → times_x (plus a b) ≡ plus (times_x a) (times_x b)
unfolding times_x
times_x_plus a b =
    ap₂ bit_xor (up_plus a b) (back_plus a b)
    ∙ plus_four (a * 2 % 2 ^ 128) (b * 2 % 2 ^ 128) (a / 2 ^ 127 % 2 * 0x87) (b / 2 ^ 127 % 2 * 0x87)

back_lt : (q : ℕ) → q % 2 * 0x87 < 2 ^ 8
back_lt q = omega arith

pub good_times_x : (a : ℕ) → times_x a < 2 ^ 128
unfolding times_x
good_times_x a =
    xor_lt 128 (a * 2 % 2 ^ 128) (a / 2 ^ 127 % 2 * 0x87) (mod-lt (a * 2) (pow_pos 128))
    (lt_of_lt_of_le (back_lt (a / 2 ^ 127)) (lit≤ tt))

-- ---- a linear map that commutes with the multiplication by x

pub record Op (F : ℕ → ℕ) : Type 0 where
  pub linear : (a b : ℕ) → F (plus a b) ≡ plus (F a) (F b)
  pub past : (a : ℕ) → F (times_x a) ≡ times_x (F a)

pub none_linear : (F : ℕ → ℕ) → ((a b : ℕ) → F (plus a b) ≡ plus (F a) (F b)) → F 0 ≡ 0
none_linear F l = l 0 0 ∙ plus_self (F 0)

pick_past : (F : ℕ → ℕ) → Op F → (n a : ℕ) → F (pick n a) ≡ pick n (F a)
pick_past F o zero a = none_linear F o.linear
pick_past F o (suc n) a = refl

-- THE law of this file
pub past_times : (F : ℕ → ℕ) → Op F → (n w a : ℕ) → F (times n w a) ≡ times n w (F a)
unfolding times
past_times F o zero w a = none_linear F o.linear
past_times F o (suc n) w a =
    o.linear (pick (w % 2) a) (times n (w / 2) (times_x a))
    ∙ ap₂ plus (pick_past F o (w % 2) a) (past_times F o n (w / 2) (times_x a) ∙ ap (times n (w / 2)) (o.past a))

pick_linear : (n a b : ℕ) → pick n (plus a b) ≡ plus (pick n a) (pick n b)
pick_linear zero a b = refl
pick_linear (suc n) a b = refl

pub times_plus : (n w a b : ℕ) → times n w (plus a b) ≡ plus (times n w a) (times n w b)
unfolding times
times_plus zero w a b = refl
times_plus (suc n) w a b =
    ap₂ plus (pick_linear (w % 2) a b) (ap (times n (w / 2)) (times_x_plus a b) ∙ times_plus n (w / 2) (times_x a) (times_x b))
    ∙ plus_four (pick (w % 2) a) (pick (w % 2) b) (times n (w / 2) (times_x a)) (times n (w / 2) (times_x b))

pub times_op : (n w : ℕ) → Op (times n w)
times_op n w = record {
  linear = times_plus n w;
  past = λ a. sym (past_times times_x (record { linear = times_x_plus; past = λ b. refl }) n w a);
}

-- ---- the polynomial

pick_plus : (p q a : ℕ) → p < 2 → q < 2 → pick (bit_xor p q) a ≡ plus (pick p a) (pick q a)
pick_plus zero q a hp hq = refl
pick_plus (suc zero) zero a hp hq = sym (none_plus a)
pick_plus (suc zero) (suc zero) a hp hq = sym (plus_self a)
pick_plus (suc zero) (suc (suc q)) a hp hq = absurd (omega arith)
pick_plus (suc (suc p)) q a hp hq = absurd (omega arith)

pub plus_times : (n v w a : ℕ) → times n (plus v w) a ≡ plus (times n v a) (times n w a)
unfolding times
plus_times zero v w a = refl
plus_times (suc n) v w a =
    ap₂ (λ (p q : ℕ). plus (pick p a) (times n q (times_x a))) (xor_mod v w 1) (xor_shr v w 1)
    ∙ ap₂ plus (pick_plus (v % 2) (w % 2) a (mod-lt v two_pos) (mod-lt w two_pos)) (plus_times n (v / 2) (w / 2) (times_x a))
    ∙ plus_four (pick (v % 2) a) (pick (w % 2) a) (times n (v / 2) (times_x a)) (times n (w / 2) (times_x a))

pub times_none : (n a : ℕ) → times n 0 a ≡ 0
unfolding times
times_none zero a = refl
times_none (suc n) a = times_none n (times_x a)

-- bits above those that count
pub times_low : (n h l a : ℕ) → times n (h * 2 ^ n + l) a ≡ times n l a
unfolding times
times_low zero h l a = refl
times_low (suc n) h l a =
    ap₂ (λ (p q : ℕ). plus (pick p a) (times n q (times_x a))) (block_odd h n l) (block_half h n l)
    ∙ ap (plus (pick (l % 2) a)) (times_low n h (l / 2) (times_x a))

-- x^n times a
abbrev pub power : ℕ → ℕ → ℕ
power n a = times (suc n) (2 ^ n) a

power_suc : (n a : ℕ) → power (suc n) a ≡ power n (times_x a)
unfolding times
power_suc n a =
    let odd : 2 ^ suc n % 2 ≡ 0 = omega (arith, pow-suc 2 n) in
    let half : 2 ^ suc n / 2 ≡ 2 ^ n = omega (arith, pow-suc 2 n) in
    ap₂ (λ (p q : ℕ). plus (pick p a) (times (suc n) q (times_x a))) odd half

pub power_more : (n a : ℕ) → power (n + 1) a ≡ times_x (power n a)
power_more n a = ap (λ (k : ℕ). power k a) (add-one n) ∙ power_suc n a ∙ (times_op (suc n) (2 ^ n)).past a

pub power_none : (a : ℕ) → power 0 a ≡ a
unfolding times
power_none a = none_plus a

-- the lowest m bits, and n above them
pub times_split : (m n w a : ℕ) → times (m + n) w a ≡ plus (times m w a) (times n (w / 2 ^ m) (power m a))
unfolding times
times_split zero n w a =
    ap₂ (λ (k v : ℕ). times k v a) (zero-add n) (sym (div-one w)) ∙ ap (times n (w / 1)) (sym (power_none a))
times_split (suc m) n w a =
    let deep : w / 2 / 2 ^ m ≡ w / 2 ^ suc m = shr-shr w 1 m ∙ ap (λ (e : ℕ). w / 2 ^ e) (one-add m) in
    ap (λ (k : ℕ). times k w a) (suc-add m n)
    ∙ ap (plus (pick (w % 2) a))
    (times_split m n (w / 2) (times_x a)
    ∙ ap₂ (λ (v p : ℕ). plus (times m (w / 2) (times_x a)) (times n v p)) deep (sym (power_suc m a)))
    ∙ sym (plus_assoc (pick (w % 2) a) (times m (w / 2) (times_x a)) (times n (w / 2 ^ suc m) (power (suc m) a)))

-- one bit more
pub times_more : (n w a : ℕ) → times (n + 1) w a ≡ plus (times n w a) (pick (w / 2 ^ n % 2) (power n a))
unfolding times
times_more n w a = times_split n 1 w a ∙ ap (plus (times n w a)) (none_plus (pick (w / 2 ^ n % 2) (power n a)))

-- bits that are zero do not count
pub times_short : (n k w a : ℕ) → w < 2 ^ n → times (n + k) w a ≡ times n w a
times_short n k w a h =
    times_split n k w a
    ∙ ap (λ (v : ℕ). plus (times n w a) (times k v (power n a))) (div-eq_of_lt h)
    ∙ ap (plus (times n w a)) (times_none k (power n a))
    ∙ none_plus (times n w a)

-- ---- every element is a polynomial in x, times 1

times_x_small : (u : ℕ) → u < 2 ^ 127 → times_x u ≡ u * 2
unfolding times_x
times_x_small u h =
    ap₂ bit_xor (shl_exact 127 1 128 h (lit≤ tt)) (ap (λ (x : ℕ). x % 2 * 0x87) (div-eq_of_lt h)) ∙ xor_zero_r (u * 2)

pick_one : (v : ℕ) → v < 2 → pick v 1 ≡ v
pick_one zero h = refl
pick_one (suc zero) h = refl
pick_one (suc (suc v)) h = absurd (omega arith)

bit_rest : (v : ℕ) → plus (v % 2) (v / 2 * 2) ≡ v
bit_rest v = plus_comm (v % 2) (v / 2 * 2) ∙ xor_shifted (v / 2) 1 (v % 2) (mod-lt v two_pos) ∙ div-add-mod' v 2

pub times_one : (n v : ℕ) → n ≤ 128 → v < 2 ^ n → times n v 1 ≡ v
unfolding times
times_one zero v hn h = omega arith
times_one (suc n) v hn h =
    ap₂ plus (pick_one (v % 2) (mod-lt v two_pos))
    ((times_op n (v / 2)).past 1 ∙ ap times_x (times_one n (v / 2) (omega arith) (half_lt n h))
    ∙ times_x_small (v / 2) (lt_of_lt_of_le (half_lt n h) (pow_mono {i = n} {j = 127} (le_of_suc-le-suc hn))))
    ∙ bit_rest v

-- ---- below 2^128

good_pick : (n a : ℕ) → a < 2 ^ 128 → pick n a < 2 ^ 128
good_pick zero a h = pow_pos 128
good_pick (suc n) a h = h

pub good_times : (n w a : ℕ) → a < 2 ^ 128 → times n w a < 2 ^ 128
unfolding times
good_times zero w a h = pow_pos 128
good_times (suc n) w a h =
    good_plus (pick (w % 2) a) (times n (w / 2) (times_x a)) (good_pick (w % 2) a h)
    (good_times n (w / 2) (times_x a) (good_times_x a))
