-- What a frame and an envelope begin with, read and laid out: sections 6 and 14 of docs/RULES.md.
-- What is wrong first is refused. A field is judged once it is whole: where the input ends in it,
-- that is 3 (R6.4, R14.2).
use Rattle.std.specs.Prelude.{ℕ, List, ◌++◌, ltb, eqb, length, take}
use Rattle.wire.specs.Answer.{choose, refused, then, demand, Got, got}
use Rattle.lend.specs.Same.{same}
use Rattle.varint.specs.Varint.{varint, varint_at}

-- the version: 7 where it is no varint, 5 where it is not 1 (R6.4)
unfoldable pub version_at : List ℕ → ℕ → Got Unit
version_at s at = then (varint_at s at) (λ (version, next). demand (eqb version 1) 5 (got tt next))

-- the magic, else 4, and the version behind it (R6.4); a magic is compared as a whole (R18.2)
unfoldable pub mark_of : List ℕ → List ℕ → Got Unit
mark_of magic s =
    choose (ltb (length s) (length magic)) (refused 3)
    (demand (same (take (length magic) s) magic) 4
    (version_at s (length magic)))

-- the same, laid out (R6.1, R14.1)
unfoldable pub marked : List ℕ → List ℕ
marked magic = magic ++ varint 1
