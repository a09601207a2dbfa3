-- What the theorems of proofs/Back.antt, proofs/Changed.antt and proofs/Secrecy.antt speak of.
use Rattle.std.specs.Prelude.{◌≡◌, List, [], ◌∷◌, ℕ, ◌-◌, ◌*◌, ◌≤◌, length}
use Rattle.wire.specs.Number.{Bytes}
use Rattle.split.specs.Split.{blocks_in, share_of}
use Rattle.recover.specs.Recover.{Slip}

-- it holds of each one
abbrev pub Each : {A : Type 0} → (A → Type 0) → List A → Type 0
Each P [] = Unit {0}
Each P (x ∷ xs) = P x × Each P xs

-- a slip of this split: it says what was split, for one document and under one key, and its share
-- is the one at its index
pub record OfSplit (kind hash key secret : List ℕ) (threshold count : ℕ) (coefficients : List ℕ) (v : Slip) : Type 0 where
  pub kind_said : v.kind ≡ kind
  pub hash_said : v.hash ≡ hash
  pub key_said : v.key ≡ key
  pub threshold_said : v.threshold ≡ threshold
  pub count_said : v.count ≡ count
  pub len_said : v.len ≡ length secret
  pub first : 1 ≤ v.index
  pub last : v.index ≤ count
  pub share_there : v.share ≡ share_of (blocks_in (length secret)) (threshold - 1) secret coefficients v.index

-- the slip with another share
abbrev pub with_share : List ℕ → Slip → Slip
with_share share v =
    record {
      kind = v.kind;
      threshold = v.threshold;
      count = v.count;
      len = v.len;
      hash = v.hash;
      key = v.key;
      index = v.index;
      share = share;
    }

-- a share of a secret of len bytes, with its index: any bytes, as many as its blocks have
pub record Given (len : ℕ) (g : ℕ × List ℕ) : Type 0 where
  pub first : 1 ≤ g.0
  pub last : g.0 ≤ 255
  pub bytes : Bytes g.1
  pub long : length g.1 ≡ blocks_in len * 16

-- coefficients by which this secret, split with this threshold, has these shares at their indices
pub record Explains (secret : List ℕ) (threshold : ℕ) (given : List (ℕ × List ℕ)) (coefficients : List ℕ) : Type 0 where
  pub bytes : Bytes coefficients
  pub long : length coefficients ≡ blocks_in (length secret) * ((threshold - 1) * 16)
  pub shares : Each (λ g. share_of (blocks_in (length secret)) (threshold - 1) secret coefficients g.0 ≡ g.1) given
