-- Recovering a secret from slips: R19.6 to R19.9 of docs/RULES.md.
use Rattle.std.specs.Prelude.{ℕ, zero, suc, ◌*◌, Bool, true, false, ◌&&◌, List, [], ◌∷◌, ◌++◌, map, leb, eqb, length, take, drop}
use Rattle.wire.specs.Answer.{Answer, done, refused, refused_at, then, demand}
use Rattle.wire.specs.Every.{every, without}
use Rattle.wire.specs.Number.{big_endian}
use Rattle.wire.specs.Span.{part_at}
use Rattle.lend.specs.Same.{same}
use Rattle.shard.specs.Shard.{Shard, shard_at}
use Rattle.field.specs.Element.{block}
use Rattle.curve.specs.Curve.{through_at}
use Rattle.split.specs.Split.{blocks_in}

-- ---- slips

-- the payloads of the slips, which stand in s at these places (R19.6)
unfoldable pub slips_at : (s starts lens : List ℕ) → List (List ℕ)
slips_at s [] lens = []
slips_at s (start ∷ starts) [] = []
slips_at s (start ∷ starts) (len ∷ lens) = part_at s (record { start = start; len = len }) ∷ slips_at s starts lens

-- what a slip says of a secret: all but its signature
pub record Slip : Type 0 where
  pub kind : List ℕ
  pub threshold : ℕ
  pub count : ℕ
  pub len : ℕ
  pub hash : List ℕ
  pub key : List ℕ
  pub index : ℕ
  pub share : List ℕ

unfoldable pub slip_of : List ℕ → Shard → Slip
slip_of s v =
    record {
      kind = part_at s v.content.kind;
      threshold = v.quorum.threshold;
      count = v.quorum.count;
      len = v.content.length;
      hash = take 32 (drop v.claim.hash s);
      key = take 32 (drop v.claim.public s);
      index = v.quorum.index;
      share = part_at s v.content.share;
    }

-- each is read as a shard payload, and the first that is refused decides (R19.6)
unfoldable pub read_slips : List (List ℕ) → Answer (List Slip)
read_slips [] = done []
read_slips (s ∷ ss) = then (shard_at s) (λ (v, _). then (read_slips ss) (λ vs. done (slip_of s v ∷ vs)))

-- ---- what is judged (R19.7)

-- two slips of one secret: of one type, threshold, count and length, and signed by one key for one
-- document
unfoldable pub alike : Slip → Slip → Bool
alike v w =
    same v.kind w.kind
    && ((eqb v.threshold w.threshold && (eqb v.count w.count && eqb v.len w.len))
    && (same v.hash w.hash && same v.key w.key))

abbrev pub holds : Answer Bool → Bool
holds (done t) = t
holds (refused_at e place) = false

-- two payloads that are slips of one secret
unfoldable pub of_one_secret : List ℕ → List ℕ → Bool
of_one_secret a b = holds (then (shard_at a) (λ (v, _). then (shard_at b) (λ (w, _). done (alike (slip_of a v) (slip_of b w)))))

-- no number twice
unfoldable pub distinct : List ℕ → Bool
distinct [] = true
distinct (x ∷ xs) = without x xs && distinct xs

-- the element of block k of a slip's share
unfoldable pub block_of : ℕ → Slip → ℕ
block_of k v = block (drop (k * 16) v.share)

-- block k of the slips as points of a curve (R19.8)
unfoldable pub points : ℕ → List Slip → List (ℕ × ℕ)
points k vs = map (λ v. (v.index, block_of k v)) vs

-- from block k on, n blocks: each of these further slips is on the curve of the first t
unfoldable pub on_curves : (n k t : ℕ) (vs further : List Slip) → Bool
on_curves zero k t vs further = true
on_curves (suc n) k t vs further =
    every (λ w. eqb (through_at t (points k vs) w.index) (block_of k w)) further
    && on_curves n (suc k) t vs further

-- from block k on, n blocks: the values at 0 of those curves, as bytes (R19.8)
unfoldable pub values_at0 : (n k t : ℕ) (vs : List Slip) → List ℕ
values_at0 zero k t vs = []
values_at0 (suc n) k t vs = big_endian 16 (through_at t (points k vs) 0) ++ values_at0 n (suc k) t vs

-- the secret, and what fills its last block, which must be zeros (R19.9)
unfoldable pub unfilled : ℕ → List ℕ → Answer (List ℕ)
unfilled len bs = demand (every (λ b. eqb b 0) (drop len bs)) 30 (done (take len bs))

-- the first slip says how many there must be and how long the secret is; each is judged over all
-- slips before the next (R19.7)
unfoldable pub combined : List Slip → Answer (List ℕ)
combined [] = refused 26
combined (v ∷ vs) =
    demand (leb v.threshold (suc (length vs))) 26
    (demand (every (alike v) vs) 27
    (demand (distinct (map (λ w. w.index) (v ∷ vs))) 28
    (demand (on_curves (blocks_in v.len) 0 v.threshold (v ∷ vs) (drop v.threshold (v ∷ vs))) 29
    (unfilled v.len (values_at0 (blocks_in v.len) 0 v.threshold (v ∷ vs))))))

-- the secret of these payloads
unfoldable pub recovered : List (List ℕ) → Answer (List ℕ)
recovered slips = then (read_slips slips) combined
