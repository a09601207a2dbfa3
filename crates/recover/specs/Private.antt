-- For the contracts of private functions: nothing here is promised to a caller.
use Rattle.std.specs.Prelude.{ℕ, zero, suc, List, [], ◌∷◌, map, Bool, true, false, eqb, get_or, take, drop, ◌≡◌, Option, Some, None}
use Rattle.wire.specs.Every.{every}
use Rattle.wire.specs.Answer.{Got, done, refused_at}
use Rattle.shard.specs.Shard.{Shard, shard_at}
use Rattle.shard.specs.declared.Shard as read
use Rattle.field.specs.Field.{plus, product, over}
use Rattle.field.specs.Element.{joined}
use Rattle.curve.specs.Curve.{slopes, through_at}
use Rattle.recover.specs.Recover.{Slip, slip_of, alike, block_of, points}
use Rattle.recover.specs.declared.newton.Point.{Point}

-- ---- a slip that was read before

abbrev pub blank : Shard
blank =
    record {
      claim = record { public = 0; sig = 0; hash = 0 };
      content = record { kind = record { start = 0; len = 0 }; share = record { start = 0; len = 0 }; length = 0 };
      quorum = record { threshold = 0; count = 0; index = 0 };
    }

abbrev pub shard_from : Got Shard → Shard
shard_from (done (v, next)) = v
shard_from (refused_at e place) = blank

-- what a payload says; nothing where it is no slip
unfoldable pub shard_in : List ℕ → Shard
shard_in s = shard_from (shard_at s)

unfoldable pub slip_in : List ℕ → Slip
slip_in s = slip_of s (shard_in s)

-- each of them says of its secret what the first says
abbrev pub as_first : List (List ℕ) → Bool
as_first slips = every (λ p. alike (slip_in (get_or slips 0 [])) (slip_in p)) (drop 1 slips)

abbrev pub index_in : List ℕ → ℕ
index_in s = (slip_in s).index

abbrev pub is_done : Got Shard → Bool
is_done (done v) = true
is_done (refused_at e place) = false

-- it is one
unfoldable pub reads : List ℕ → Bool
reads s = is_done (shard_at s)

-- what was read, less where it ends
abbrev pub said_shard : read.Shard → Shard
said_shard h =
    record { claim = record { public = h.public; sig = h.sig; hash = h.hash }; content = h.content; quorum = h.quorum }

-- ---- the curve in Newton's form

abbrev pub places : List (ℕ × ℕ) → List ℕ
places ps = map (λ p. p.0) ps

-- the values of the first n points, each less the curve through those before it, by its distance
-- from them
unfoldable pub differences : ℕ → List (ℕ × ℕ) → List ℕ
differences zero ps = []
differences (suc n) [] = []
differences (suc n) (p ∷ ps) = p.1 ∷ differences n (slopes p.0 p.1 ps)

-- what is left of the value y at x by those differences
unfoldable pub left : List ℕ → List ℕ → ℕ → ℕ → ℕ
left [] ds x y = y
left (u ∷ us) [] x y = y
left (u ∷ us) (d ∷ ds) x y = left us ds x (over (plus y d) (plus x u))

-- the value at x of the curve that has them
unfoldable pub newton_at : List ℕ → List ℕ → ℕ → ℕ
newton_at [] ds x = 0
newton_at (u ∷ us) [] x = 0
newton_at (u ∷ us) (d ∷ ds) x = plus d (product (newton_at us ds x) (plus x u))

-- the places of the code's points, and their differences
abbrev pub xs_of : List Point → List ℕ
xs_of laid = map (λ p. p.x) laid

abbrev pub ds_of : List Point → List ℕ
ds_of laid = map (λ p. joined p.d) laid

-- the first n points stand there, as their places and their differences
pub record Laid (n : ℕ) (ps : List (ℕ × ℕ)) (laid : List Point) : Type 0 where
  pub at : xs_of (take n laid) ≡ take n (places ps)
  pub by : ds_of (take n laid) ≡ differences n ps

-- the curve of block k of the first t slips goes through this one
abbrev pub fits_in : (t k : ℕ) (slips : List (List ℕ)) → List ℕ → Bool
fits_in t k slips p = eqb (through_at t (points k (map slip_in slips)) (slip_in p).index) (block_of k (slip_in p))

-- and through each behind them
abbrev pub fitting : (t k : ℕ) (slips : List (List ℕ)) → Bool
fitting t k slips = every (fits_in t k slips) (drop t slips)

-- ---- a block

-- an element that there may be
abbrev pub element_in : Option (List ℕ) → Option ℕ
element_in (Some e) = Some (joined e)
element_in None = None

-- the value where the test passes
abbrev pub kept : Bool → ℕ → Option ℕ
kept true v = Some v
kept false v = None
