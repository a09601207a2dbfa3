-- Numbers in decimal, as the status line has them (R9.12), and the line of a refusal.
use Rattle.std.specs.Prelude.{ℕ, zero, suc, ◌+◌, ◌/◌, ◌%◌, List, [], ◌∷◌, ◌++◌, ltb}
use Rattle.wire.specs.Answer.{choose}
use Rattle.wire.specs.Ascii.{ascii}

-- the character of a digit: 0 is 30 hex
abbrev pub digit : ℕ → ℕ
digit d = 0x30 + d

-- a number below 1,000 without leading zeros: every u8 is one
unfoldable pub decimal : ℕ → List ℕ
decimal n =
    choose (ltb n 10) (digit n ∷ [])
    (choose (ltb n 100) (digit (n / 10) ∷ digit (n % 10) ∷ []) (digit (n / 100) ∷ digit (n / 10 % 10) ∷ digit (n % 10) ∷ []))

-- a number without leading zeros, its last k digits at most
unfoldable pub last_digits : ℕ → ℕ → List ℕ
last_digits zero n = []
last_digits (suc k) n = choose (ltb n 10) (digit n ∷ []) (last_digits k (n / 10) ++ (digit (n % 10) ∷ []))

-- a number below 2^64: none has more than 20 digits
unfoldable pub numeral : ℕ → List ℕ
numeral n = last_digits 20 n

-- what ends a line
abbrev pub line_feed : List ℕ
line_feed = 10 ∷ []

abbrev pub refused_name : List ℕ
refused_name = ascii "refused "

-- the word and the number of the refusal (R9.13)
unfoldable pub refused_line : ℕ → List ℕ
refused_line e = refused_name ++ decimal e ++ line_feed
