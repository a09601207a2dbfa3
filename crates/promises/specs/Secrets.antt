-- What is promised of a secret that is split among wardens: R19.10 to R19.12 of docs/RULES.md.
use Rattle.std.specs.Prelude.{ℕ, suc, ◌+◌, ◌-◌, ◌*◌, ◌≤◌, ◌<◌, ◌≡◌, true, List, ◌∷◌, ◌++◌, map, length, get_or, take, drop, set}
use Rattle.wire.specs.Answer.{Answer, done, refused}
use Rattle.wire.specs.Number.{Bytes}
use Rattle.wire.specs.Over.{over}
use Rattle.wire.specs.Writing.{told}
use Rattle.split.specs.Split.{blocks_in, share_of}
use Rattle.split.proofs.split as split-split
use Rattle.recover.specs.Recover.{Slip, slips_at, read_slips, distinct}
use Rattle.recover.specs.Claims.{Each, OfSplit, with_share, Given, Explains}
use Rattle.recover.proofs.recover as recover-recover
use Rattle.promises.specs.Calls.{Call}

-- these were passed to split, which answered a and left x in its output
abbrev pub SplitCall : (secret : List ℕ) (threshold count : ℕ) (coefficients out x : List ℕ) (a : Answer ℕ) → Type 0
SplitCall secret threshold count coefficients out x a =
    (k : Call split-split.Kinds.ps split-split.Kinds.r split-split.Reads.Learnt)
    × (k.args.0.now ≡ secret) × (k.args.1.0 ≡ threshold) × (k.args.1.1.0 ≡ count) × (k.args.1.1.1.0.now ≡ coefficients)
    × (k.args.1.1.1.1.0.now ≡ out) × (k.left.1.1.1.1.0 ≡ x) × (told k.answer ≡ a)

-- the slips of these payloads were passed to recover, wherever they stood
abbrev pub RecoverCall : (slips : List (List ℕ)) (out x : List ℕ) (a : Answer ℕ) → Type 0
RecoverCall slips out x a =
    (k : Call recover-recover.Kinds.ps recover-recover.Kinds.r recover-recover.Reads.Learnt)
    × (slips_at k.args.0.now k.args.1.0.now k.args.1.1.0.now ≡ slips)
    × (k.args.1.1.1.0.now ≡ out) × (k.left.1.1.1.0 ≡ x) × (told k.answer ≡ a)

-- a split that is done, and payloads that say these slips of it, no number twice
pub record Shown (kind hash key secret : List ℕ) (threshold count : ℕ) (coefficients lent shares : List ℕ) (m : ℕ) (vs : List Slip) : Type 0 where
  pub secret_bytes : Bytes secret
  pub coefficients_bytes : Bytes coefficients
  pub split : SplitCall secret threshold count coefficients lent shares (done m)
  pub slips : Each (OfSplit kind hash key secret threshold count coefficients) vs
  pub once : distinct (map (λ v. v.index) vs) ≡ true

pub record Secrets : Type 0 where
  -- split writes the shares by their numbers: number i stands behind those before it, all of one
  -- length (R19.5)
  pub written : (secret : List ℕ) (t n : ℕ) (cs lent shares : List ℕ) (m : ℕ) → SplitCall secret t n cs lent shares (done m)
      → (i : ℕ) → i < n → take (blocks_in (length secret) * 16) (drop (i * (blocks_in (length secret) * 16)) shares) ≡ share_of (blocks_in (length secret)) (t - 1) secret cs (1 + i)
  -- as many slips of one split as its threshold says, or more, in any order, give the secret, and
  -- nothing else is written (R19.10)
  pub back : (kind hash key secret : List ℕ) (t n : ℕ) (cs lent shares : List ℕ) (m : ℕ) (vs : List Slip) → Shown kind hash key secret t n cs lent shares m vs → t ≤ length vs
      → (payloads : List (List ℕ)) → read_slips payloads ≡ done vs
      → (out x : List ℕ) (a : Answer ℕ) → length secret ≤ length out → RecoverCall payloads out x a → (a ≡ done (length secret)) × (x ≡ over 0 secret out)
  -- where there are more, one whose share has another byte is told (R19.11)
  pub changed : (kind hash key secret : List ℕ) (t n : ℕ) (cs lent shares : List ℕ) (m : ℕ) (before : List Slip) (v : Slip) (after : List Slip)
      → Shown kind hash key secret t n cs lent shares m (before ++ (v ∷ after)) → t < length (before ++ (v ∷ after))
      → (j b : ℕ) → j < length v.share → b < 256 → (b ≡ get_or v.share j 0 → ⊥)
      → (payloads : List (List ℕ)) → read_slips payloads ≡ done (before ++ (with_share (set v.share j b) v ∷ after))
      → (out x : List ℕ) (a : Answer ℕ) → RecoverCall payloads out x a → (a ≡ refused 29) × (x ≡ out)
  -- of one slip fewer than the threshold nothing follows: whatever their shares are, every secret
  -- of that length has coefficients that give them, and one choice of these alone (R19.12)
  pub hidden : (secret : List ℕ) (given : List (ℕ × List ℕ)) → Bytes secret → Each (Given (length secret)) given → distinct (map (λ g. g.0) given) ≡ true
      → (cs : List ℕ) × Explains secret (suc (length given)) given cs × ((ds : List ℕ) → Explains secret (suc (length given)) given ds → cs ≡ ds)
