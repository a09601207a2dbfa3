-- What private functions alone promise.
use Rattle.std.specs.Prelude.{ℕ, ◌*◌, List, ◌∷◌, drop}
use Rattle.wire.specs.Number.{big_endian}
use Rattle.field.specs.Element.{block}
use Rattle.curve.specs.Curve.{value_at, blocks}

-- block k of the share at point i
abbrev pub block_of : (k more : ℕ) (secret coefficients : List ℕ) (i : ℕ) → List ℕ
block_of k more secret coefficients i =
    big_endian 16 (value_at (block (drop (k * 16) secret) ∷ blocks more (drop (k * (more * 16)) coefficients)) i)
