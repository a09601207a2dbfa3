-- Shifts that lose nothing, at the few bits that pass from characters to bytes and back.
-- Assumes nothing.
use Prim.Native.Nat.{ℕ, ◌+◌, ◌*◌, ◌/◌, ◌%◌, ◌^◌, ◌≤◌, ◌<◌}
use mathlib.Core.Path.{◌≡◌, ◌∙◌}
use native.Mathlib.Nat.{one-mul, suc-mul, mul-le-mul_right, lt_of_lt_of_le}
use native.Mathlib.Omega.{arith}
use lib.Dec.{lit<}
use lib.Pow.{pow-add, pow_mono, shl_lt, shl_exact, shr_lt}

pub shift_exact : (b k : ℕ) → b < 2 ^ 8 → k ≤ 8 → b * 2 ^ k % 2 ^ 32 ≡ b * 2 ^ k
shift_exact b k h l = shl_exact 8 k 32 h (omega arith)

pub shift_small : (b k : ℕ) → b < 2 ^ 8 → k ≤ 8 → b * 2 ^ k < 2 ^ 16
shift_small b k h l = lt_of_lt_of_le (shl_lt 8 k h) (pow_mono {i = 8 + k} {j = 16} (omega arith))

pub one_shifted : (k : ℕ) → k < 8 → 1 * 2 ^ k % 2 ^ 32 ≡ 2 ^ k
one_shifted k l = shl_exact 1 k 32 (lit< tt) (omega arith) ∙ one-mul (2 ^ k)

-- few bits are below 256
pub few : (b k : ℕ) → b < 2 ^ k → k < 8 → b < 256
few b k h l = lt_of_lt_of_le h (pow_mono {i = k} {j = 8} (omega arith))

-- the bits with a digit behind them
pub joined_lt : (b k w v : ℕ) → b < 2 ^ k → v < 2 ^ w → b * 2 ^ w + v < 2 ^ (k + w)
joined_lt b k w v h l = omega (arith, pow-add 2 k w, mul-le-mul_right (2 ^ w) h, suc-mul b (2 ^ w))

-- what stands above the last bits is a digit of the size that is taken
pub top_lt : (b k size left : ℕ) → b < 2 ^ k → k ≡ size + left → b / 2 ^ left < 2 ^ size
top_lt b k size left h e = shr_lt size left (rw e at h)
