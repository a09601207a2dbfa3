-- The rule of the constants, FIPS 180-4, sections 4.2.2 and 5.3.3: the first 32 bits of the
-- fractional parts of the cube roots of the first sixty-four primes, and of the square roots of the
-- first eight. Each table is one computed test. Assumes nothing.
use mathlib.Core.Path.{◌≡◌, refl}
use mathlib.Core.Bool.{Bool, true, false}
use mathlib.Core.List.{List, [], ◌∷◌}
use Prim.Native.Nat.{ℕ, zero, suc, ◌+◌, ◌*◌, ◌%◌, ◌^◌, ◌≤◌, ◌<◌}
use lib.Dec.{T, leb, ltb, eqb, leb→le, ltb→lt}
use lib.ListN.{length, get_or}
use Rattle.wire.specs.Answer.{choose}
use Rattle.bits.proofs.Table.{both, every, at}
use Rattle.sha256.specs.Constants.{k_words, start}
use Rattle.sha256.specs.Sha.{listed}

-- the first sixty-four primes
abbrev pub primes : List ℕ
primes =
    2 ∷ 3 ∷ 5 ∷ 7 ∷ 11 ∷ 13 ∷ 17 ∷ 19 ∷ 23 ∷ 29 ∷ 31 ∷ 37 ∷ 41 ∷ 43 ∷ 47 ∷ 53 ∷
    59 ∷ 61 ∷ 67 ∷ 71 ∷ 73 ∷ 79 ∷ 83 ∷ 89 ∷ 97 ∷ 101 ∷ 103 ∷ 107 ∷ 109 ∷ 113 ∷ 127 ∷ 131 ∷
    137 ∷ 139 ∷ 149 ∷ 151 ∷ 157 ∷ 163 ∷ 167 ∷ 173 ∷ 179 ∷ 181 ∷ 191 ∷ 193 ∷ 197 ∷ 199 ∷ 211 ∷ 223 ∷
    227 ∷ 229 ∷ 233 ∷ 239 ∷ 241 ∷ 251 ∷ 257 ∷ 263 ∷ 269 ∷ 271 ∷ 277 ∷ 281 ∷ 283 ∷ 293 ∷ 307 ∷ 311 ∷ []

-- they are what the sieve of Eratosthenes leaves of the numbers from 2 on. Here k numbers from n on
abbrev from : ℕ → ℕ → List ℕ
from n zero = []
from n (suc k) = n ∷ from (suc n) k

abbrev without : ℕ → List ℕ → List ℕ
without p [] = []
without p (n ∷ ns) = choose (eqb (n % p) 0) (without p ns) (n ∷ without p ns)

abbrev sieve : ℕ → List ℕ → List ℕ
sieve zero ns = []
sieve (suc k) [] = []
sieve (suc k) (p ∷ ns) = p ∷ sieve k (without p ns)

-- For the reader: no prime between them is left out
pub primes_sieved : primes ≡ sieve 64 (from 2 310)
primes_sieved = refl

-- x is the first 32 bits of the fractional part of the root of degree e of p: whole and x together,
-- as a number of 2^32ths, are that root rounded down
pub record Root (e p x : ℕ) : Type 0 where
  pub whole : ℕ
  pub small : x < 2 ^ 32
  pub low : (whole * 2 ^ 32 + x) ^ e ≤ p * 2 ^ (32 * e)
  pub high : p * 2 ^ (32 * e) < (whole * 2 ^ 32 + x + 1) ^ e

-- the largest number up to n whose power of degree e is at most p
abbrev part : ℕ → ℕ → ℕ → ℕ
part e p zero = 0
part e p (suc n) = choose (leb (suc n ^ e) p) (suc n) (part e p n)

abbrev right : ℕ → ℕ → ℕ → Bool
right e p x =
    both (ltb x (2 ^ 32))
    (both (leb ((part e p 6 * 2 ^ 32 + x) ^ e) (p * 2 ^ (32 * e))) (ltb (p * 2 ^ (32 * e)) ((part e p 6 * 2 ^ 32 + x + 1) ^ e)))

split : (a b : Bool) → T (both a b) → T a × T b
split true b t = (tt, t)
split false b t = absurd t

root : (e p x : ℕ) → T (right e p x) → Root e p x
root e p x t =
    let q = split (ltb x (2 ^ 32)) _ t in
    let r = split (leb ((part e p 6 * 2 ^ 32 + x) ^ e) (p * 2 ^ (32 * e))) _ q.1 in
    record { whole = part e p 6; small = ltb→lt _ _ q.0; low = leb→le _ _ r.0; high = ltb→lt _ _ r.1 }

roots : (e : ℕ) (xs : List ℕ) → T (every (λ i x. right e (get_or primes i 0) x) 0 xs) → (i : ℕ) → i < length xs → Root e (get_or primes i 0) (get_or xs i 0)
roots e xs t i h = root e (get_or primes i 0) (get_or xs i 0) (at (λ i x. right e (get_or primes i 0) x) xs t i h)

-- For the reader: the constants of section 4.2.2
pub cube_roots : (t : ℕ) → t < 64 → Root 3 (get_or primes t 0) (get_or k_words t 0)
unfolding k_words
cube_roots = roots 3 k_words tt

-- For the reader: those of section 5.3.3
pub square_roots : (i : ℕ) → i < 8 → Root 2 (get_or primes i 0) (get_or (listed start) i 0)
unfolding listed start
square_roots = roots 2 (listed start) tt
