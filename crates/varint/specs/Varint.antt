-- Unsigned varints: section 4 of docs/RULES.md.
use Rattle.std.specs.Prelude.{ℕ, zero, suc, ◌+◌, ◌*◌, ◌/◌, ◌%◌, List, [], ◌∷◌, ltb, eqb, drop}
use Rattle.wire.specs.Answer.{choose, refused, then, Got, got}

-- a number in digits of seven bits, the lowest first; the top bit says that another follows (R4.1).
-- At most p bytes follow the first
unfoldable pub sevens : ℕ → ℕ → List ℕ
sevens zero n = n ∷ []
sevens (suc p) n = choose (ltb n 128) (n ∷ []) ((n % 128 + 128) ∷ sevens p (n / 128))

-- the one form of a number below 2 ^ 64, which ten bytes hold (R4.2); `varint::size` knows how many
-- it takes from the leading zeros (R18.1)
unfoldable pub varint : ℕ → List ℕ
varint n = sevens 9 n

-- n, which is below the weight w, and what was found from the weight w on
abbrev pub onto : ℕ → ℕ → Got ℕ → Got ℕ
onto n w g = then g (λ (v, next). got (n + w * v) next)

-- only the shortest form is read (R4.2): one of several bytes that ends in 00 is refused (R4.3)
unfoldable pub ending : ℕ → ℕ → Got ℕ
ending b next = choose (eqb b 0) (refused 7) (got b next)

-- with a tenth byte above 1 the number would be 2 ^ 64 or more (R4.3)
unfoldable pub tenth : ℕ → ℕ → Got ℕ
tenth b next = choose (ltb 1 b) (refused 7) (ending b next)

-- the bytes after the first: the list starts at position i, and at most p bytes may follow the one
-- there; input that ends before the form does is 3 (R4.4)
unfoldable pub later_from : ℕ → ℕ → List ℕ → Got ℕ
later_from p i [] = refused 3
later_from zero i (b ∷ bs) = tenth b (i + 1)
later_from (suc p) i (b ∷ bs) = choose (ltb b 128) (ending b (i + 1)) (onto (b % 128) 128 (later_from p (i + 1) bs))

-- the number at the front of a list that starts at position i (R4.1); where there is no byte, 3
-- (R4.4)
unfoldable pub varint_from : ℕ → List ℕ → Got ℕ
varint_from i [] = refused 3
varint_from i (b ∷ bs) = choose (ltb b 128) (got b (i + 1)) (onto (b % 128) 128 (later_from 8 (i + 1) bs))

-- the number at position at of s, and the position past its last byte
unfoldable pub varint_at : List ℕ → ℕ → Got ℕ
varint_at s at = varint_from at (drop at s)
