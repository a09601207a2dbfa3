-- Bytes in lower-case hex, as the programs print and read an id (R15.1, R15.4): 0 to 9 are 30 to 39
-- hex, 10 to 15 are 61 to 66 hex.
use Rattle.std.specs.Prelude.{ℕ, ◌+◌, ◌-◌, ◌*◌, ◌/◌, ◌%◌, Bool, ◌&&◌, List, [], ◌∷◌, ltb, leb, eqb, length}
use Rattle.wire.specs.Answer.{choose, Answer, done, demand}
use Rattle.wire.specs.Every.{every}

-- ---- written

unfoldable pub hex_digit : ℕ → ℕ
hex_digit d = choose (ltb d 10) (0x30 + d) (0x57 + d)

-- two digits a byte, the higher first
unfoldable pub hex_of : List ℕ → List ℕ
hex_of [] = []
hex_of (b ∷ bs) = hex_digit (b / 16) ∷ hex_digit (b % 16) ∷ hex_of bs

-- ---- read

-- the value of a digit; 16 for any other byte
unfoldable pub hex_value : ℕ → ℕ
hex_value b = choose (leb 0x30 b && leb b 0x39) (b - 0x30) (choose (leb 0x61 b && leb b 0x66) (b - 0x57) 16)

abbrev pub all_hex : List ℕ → Bool
all_hex = every (λ (b : ℕ). ltb (hex_value b) 16)

-- a byte for each two digits
unfoldable pub hex_bytes : List ℕ → List ℕ
hex_bytes [] = []
hex_bytes (h ∷ []) = []
hex_bytes (h ∷ l ∷ s) = (hex_value h * 16 + hex_value l) ∷ hex_bytes s

-- digits alone, and none without its second: else 19 (R15.1)
unfoldable pub hex_verdict : List ℕ → Answer (List ℕ)
hex_verdict s = demand (eqb (length s % 2) 0 && all_hex s) 19 (done (hex_bytes s))
