-- The rule of each of the two tables, by a test that antt computes over the whole table.
-- Assumes nothing.
use Rattle.std.proofs.Common.{◌≡◌, ℕ, suc, ◌+◌, ◌*◌, ◌%◌, ◌^◌, ◌<◌, ◌≤◌, Bool, T, eqb, ltb, leb, List, [], ◌∷◌, length, get_or, replicate, eqb→eq, ltb→lt, leb→le}
use Rattle.wire.specs.Answer.{choose}
use Rattle.bits.proofs.Table.{every, at}
use Rattle.blake2b.specs.Blake2b.{iv, sigma}

-- ---- SIGMA
abbrev pub row : ℕ → List ℕ
row r = get_or sigma r []

-- a test of each row, and of each place in it
by_row : (f : ℕ → Bool) → T (every (λ r x. f r) 0 (replicate 12 0)) → (r : ℕ) → r < 12 → T (f r)
by_row f t r h = at (λ r x. f r) (replicate 12 0) t r h

row_length : (r : ℕ) → r < 12 → length (row r) ≡ 16
unfolding sigma
row_length r h = eqb→eq (length (row r)) 16 (by_row (λ r. eqb (length (row r)) 16) tt r h)

by_place : (f : ℕ → ℕ → ℕ → Bool) → T (every (λ r x. every (f r) 0 (row r)) 0 (replicate 12 0)) → (r i : ℕ) → r < 12 → i < 16 → T (f r i (get_or (row r) i 0))
by_place f t r i h l = at (f r) (row r) (by_row (λ r. every (f r) 0 (row r)) t r h) i (rw (row_length r h) l)

-- every entry is below 16,
pub sigma_small : (r i : ℕ) → r < 12 → i < 16 → get_or (row r) i 0 < 16
unfolding sigma
sigma_small r i h l = ltb→lt (get_or (row r) i 0) 16 (by_place (λ r i x. ltb x 16) tt r i h l)

-- where x stands in a row
place : ℕ → List ℕ → ℕ
place x [] = 0
place x (y ∷ ys) = choose (eqb y x) 0 (suc (place x ys))

-- For the reader: each number below 16 stands somewhere in each row: with `sigma_small`, a row is a
-- permutation of 0 to 15,
pub sigma_has : (r x : ℕ) → r < 12 → x < 16 → (i : ℕ) × (i < 16) × (get_or (row r) i 0 ≡ x)
unfolding sigma place
sigma_has r x h l = (
  place x (row r),
  ltb→lt (place x (row r)) 16 (by_place (λ r x y. ltb (place x (row r)) 16) tt r x h l),
  eqb→eq (get_or (row r) (place x (row r)) 0) x (by_place (λ r x y. eqb (get_or (row r) (place x (row r)) 0) x) tt r x h l),
)

-- For the reader: rows 10 and 11 are rows 0 and 1
pub sigma_again : (r i : ℕ) → r < 12 → i < 16 → get_or (row r) i 0 ≡ get_or (row (r % 10)) i 0
unfolding sigma
sigma_again r i h l = eqb→eq (get_or (row r) i 0) (get_or (row (r % 10)) i 0) (by_place (λ r i x. eqb x (get_or (row (r % 10)) i 0)) tt r i h l)

-- ---- IV
-- the first eight primes, and the whole parts of their square roots
abbrev pub prime : ℕ → ℕ
prime k = get_or (2 ∷ 3 ∷ 5 ∷ 7 ∷ 11 ∷ 13 ∷ 17 ∷ 19 ∷ []) k 0

abbrev pub floor : ℕ → ℕ
floor k = get_or (1 ∷ 1 ∷ 2 ∷ 2 ∷ 3 ∷ 3 ∷ 4 ∷ 4 ∷ []) k 0

-- For the reader: IV[k] is the first 64 bits of the fraction of the square root of prime k
pub iv_root : (k : ℕ) → k < 8
    → (get_or iv k 0 < 2 ^ 64) × ((floor k * 2 ^ 64 + get_or iv k 0) ^ 2 ≤ prime k * 2 ^ 128) × (prime k * 2 ^ 128 < (floor k * 2 ^ 64 + get_or iv k 0 + 1) ^ 2)
unfolding iv
iv_root k h = (
  ltb→lt (get_or iv k 0) (2 ^ 64) (at (λ k x. ltb x (2 ^ 64)) iv tt k h),
  leb→le ((floor k * 2 ^ 64 + get_or iv k 0) ^ 2) (prime k * 2 ^ 128) (at (λ k x. leb ((floor k * 2 ^ 64 + x) ^ 2) (prime k * 2 ^ 128)) iv tt k h),
  ltb→lt (prime k * 2 ^ 128) ((floor k * 2 ^ 64 + get_or iv k 0 + 1) ^ 2) (at (λ k x. ltb (prime k * 2 ^ 128) ((floor k * 2 ^ 64 + x + 1) ^ 2)) iv tt k h),
)
