-- The first line that `pier` and `pantry` read: R15.1.
use Rattle.std.specs.Prelude.{ℕ, List, eqb, length}
use Rattle.wire.specs.Answer.{Answer, demand}
use Rattle.digits.specs.Hex.{hex_verdict}

-- the 8 bytes of a document's id, in hex: anything else on the line is 19 (R15.1)
unfoldable pub id_verdict : List ℕ → Answer (List ℕ)
id_verdict s = demand (eqb (length s) 16) 19 (hex_verdict s)
