-- Splitting a secret: R19.2 to R19.5 of docs/RULES.md.
use Rattle.std.specs.Prelude.{ℕ, zero, suc, ◌+◌, ◌-◌, ◌*◌, ◌/◌, Bool, ◌&&◌, List, [], ◌∷◌, ◌++◌, leb, eqb, length, drop}
use Rattle.wire.specs.Answer.{Answer, done, demand}
use Rattle.wire.specs.Number.{big_endian}
use Rattle.wire.specs.Sizes.{most_share}
use Rattle.field.specs.Element.{block}
use Rattle.curve.specs.Curve.{value_at, blocks}

-- so many blocks of 16 bytes hold a secret of len bytes (R19.2)
abbrev pub blocks_in : ℕ → ℕ
blocks_in len = (len + 15) / 16

-- the share at point i, block after block: for each of n blocks of the secret the value there of
-- the curve that begins with the block and goes on with the next `more` coefficients (R19.3, R19.4)
unfoldable pub share_of : (n more : ℕ) (secret coefficients : List ℕ) (i : ℕ) → List ℕ
share_of zero more secret coefficients i = []
share_of (suc n) more secret coefficients i =
    big_endian 16 (value_at (block secret ∷ blocks more coefficients) i)
    ++ share_of n more (drop 16 secret) (drop (more * 16) coefficients) i

-- the shares at so many points from i on, one behind the other (R19.5)
unfoldable pub shares_from : (count i n more : ℕ) (secret coefficients : List ℕ) → List ℕ
shares_from zero i n more secret coefficients = []
shares_from (suc count) i n more secret coefficients =
    share_of n more secret coefficients i ++ shares_from count (suc i) n more secret coefficients

-- all shares of a split, the first at point 1 (R19.5)
abbrev pub shares_of : (secret : List ℕ) (threshold count : ℕ) (coefficients : List ℕ) → List ℕ
shares_of secret threshold count coefficients = shares_from count 1 (blocks_in (length secret)) (threshold - 1) secret coefficients

-- 1 to 255 shares, of which 1 or more are needed (R19.5)
unfoldable pub quorum_allowed : (threshold count : ℕ) → Bool
quorum_allowed threshold count = leb 1 threshold && (leb threshold count && leb count 255)

-- the shares, or 19 for the quorum, the length of the secret, or that of the coefficients (R19.5)
unfoldable pub split_verdict : (secret : List ℕ) (threshold count : ℕ) (coefficients : List ℕ) → Answer (List ℕ)
split_verdict secret threshold count coefficients =
    demand (quorum_allowed threshold count) 19
    (demand (leb 1 (length secret) && leb (length secret) most_share) 19
    (demand (eqb (length coefficients) (blocks_in (length secret) * ((threshold - 1) * 16))) 19
    (done (shares_of secret threshold count coefficients))))
