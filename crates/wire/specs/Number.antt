-- Numbers as digits of any base: bytes are the digits of base 256.
use Rattle.std.specs.Prelude.{ℕ, zero, suc, ◌+◌, ◌*◌, ◌/◌, ◌%◌, ◌<◌, List, [], ◌∷◌, ◌++◌, get_or}

-- the lowest k digits of n, the highest of them first
unfoldable pub digits : ℕ → ℕ → ℕ → List ℕ
digits base zero n = []
digits base (suc k) n = digits base k (n / base) ++ (n % base ∷ [])

-- the number that digits stand for, the highest first, after those that made n
unfoldable pub number_from : ℕ → ℕ → List ℕ → ℕ
number_from base n [] = n
number_from base n (d ∷ ds) = number_from base (n * base + d) ds

abbrev pub number : ℕ → List ℕ → ℕ
number base ds = number_from base 0 ds

-- n in k bytes, the highest first: "big-endian" in the rules
abbrev pub big_endian : ℕ → ℕ → List ℕ
big_endian k n = digits 256 k n

-- n in k bytes, the lowest first
unfoldable pub little_endian : ℕ → ℕ → List ℕ
little_endian zero n = []
little_endian (suc k) n = n % 256 ∷ little_endian k (n / 256)

-- every element is a digit of the base
abbrev pub Digits : ℕ → List ℕ → Type 0
Digits base ds = (i : ℕ) → get_or ds i 0 < base

abbrev pub Bytes : List ℕ → Type 0
Bytes bs = Digits 256 bs
