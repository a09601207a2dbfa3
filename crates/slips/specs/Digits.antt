-- So many bytes in hex, as a key, a digest, a seed or a signature is given (R15.20).
use Rattle.std.specs.Prelude.{ℕ, ◌/◌, List, eqb, length}
use Rattle.wire.specs.Answer.{Answer, demand}
use Rattle.digits.specs.Hex.{hex_verdict}

-- two lower-case digits for each, and nothing else: else 19
unfoldable pub sized_hex : ℕ → List ℕ → Answer (List ℕ)
sized_hex size cs = demand (eqb (length cs / 2) size) 19 (hex_verdict cs)
