-- Elements as the code and the papers have them: two halves of 64 bits, and 16 bytes (R19.1).
use Rattle.std.specs.Prelude.{ℕ, zero, suc, ◌+◌, ◌*◌, ◌/◌, ◌%◌, ◌^◌, List, [], ◌∷◌, get_or}
use Rattle.wire.specs.Number.{number}

-- the element of two halves, the high powers first (R18.8)
abbrev pub joined : List ℕ → ℕ
joined e = get_or e 0 0 * 2 ^ 64 + get_or e 1 0

-- the halves of an element
abbrev pub halves : ℕ → List ℕ
halves a = a / 2 ^ 64 ∷ a % 2 ^ 64 ∷ []

-- the first n bytes, and zeros where there are no more (R19.4)
unfoldable pub filled : ℕ → List ℕ → List ℕ
filled zero bs = []
filled (suc n) [] = 0 ∷ filled n []
filled (suc n) (b ∷ bs) = b ∷ filled n bs

-- the element of the first 16 bytes: the first byte has the highest powers (R19.1)
unfoldable pub block : List ℕ → ℕ
block bs = number 256 (filled 16 bs)
