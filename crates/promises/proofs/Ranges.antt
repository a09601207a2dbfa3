-- What the reader of a frame refuses is a number from 1 to 255, so the byte of an answer has room
-- for it, and it is not taken for 0. Assumes nothing.
use mathlib.Core.Path.{◌≡◌, refl, subst}
use mathlib.Core.Bool.{Bool, true, false}
use mathlib.Core.List.{List, [], ◌∷◌}
use Prim.Native.Nat.{ℕ, zero, suc, ◌+◌, ◌%◌, ◌≤◌, ◌<◌}
use borrow.Author.Tests.{leb-true, ltb-true}
use lib.Dec.{ltb, leb}
use lib.ListN.{length, take, drop}
use Rattle.wire.specs.Answer.{choose, Answer, done, refused_at, refused, then, Got, got}
use Rattle.lend.specs.Same.{same}
use Rattle.varint.specs.Varint.{onto, ending, tenth, later_from, varint_from, varint_at}
use Rattle.mark.specs.Mark.{version_at, mark_of}
use Rattle.frame.specs.Frame.{magic, kind_at, id_at, start_of, numbers_at, data_at, judged, frame_of}

abbrev Small : {A : Type 0} → Answer A → Type 0
Small (done a) = Unit
Small (refused_at e place) = (1 ≤ e) × (e < 256)

record InRange {A : Type 0} (a : Answer A) : Type 0 where
  small : Small a

module _ {A : Type 0} where
  range_done : (a : A) → InRange (done a)
  range_done a = record { small = tt }

  range_refused : (e place : ℕ) → leb 1 e ≡ true → ltb e 256 ≡ true → InRange {A = A} (refused_at e place)
  range_refused e place p q = record { small = (leb-true 1 e p, ltb-true e 256 q) }

  range_choose : (t : Bool) (a b : Answer A) → InRange a → InRange b → InRange (choose t a b)
  range_choose true a b p q = p
  range_choose false a b p q = q

  range_then : {B : Type 0} (g : Answer B) (f : B → Answer A) → InRange g → ((b : B) → InRange (f b)) → InRange (then g f)
  range_then (done b) f p q = q b
  range_then (refused_at e place) f p q = record { small = p.small }

ruleset ranges = (range_done, range_refused, range_choose, range_then, refl)

-- a number, and a mark
onto_range : (n w : ℕ) (g : Got ℕ) → InRange g → InRange (onto n w g)
onto_range n w g p = range_then g _ p (λ v. range_done _)

later_range : (p i : ℕ) (bs : List ℕ) → InRange (later_from p i bs)
unfolding later_from tenth ending
later_range p i [] = search ranges
later_range zero i (b ∷ bs) = search ranges
later_range (suc p) i (b ∷ bs) =
    range_choose (ltb b 128) (ending b (i + 1)) _ (search ranges) (onto_range (b % 128) 128 (later_from p (i + 1) bs) (later_range p (i + 1) bs))

varint_range : (s : List ℕ) (at : ℕ) → InRange (varint_at s at)
unfolding varint_at varint_from
varint_range s at = go at (drop at s)
  where
    go : (i : ℕ) (bs : List ℕ) → InRange (varint_from i bs)
    go i [] = search ranges
    go i (b ∷ bs) = range_choose (ltb b 128) (got b (i + 1)) _ (range_done _) (onto_range (b % 128) 128 (later_from 8 (i + 1) bs) (later_range 8 (i + 1) bs))

mark_range : (m s : List ℕ) → InRange (mark_of m s)
unfolding mark_of version_at
mark_range m s =
    range_choose (ltb (length s) (length m)) (refused 3) _ (search ranges)
    (range_choose (same (take (length m) s) m) _ (refused 4) (range_then (varint_at s (length m)) _ (varint_range s (length m)) (λ v. search ranges)) (search ranges))

-- the fields, and the whole
module _ (s : List ℕ) where
  start_range : InRange (start_of s)
  unfolding start_of kind_at id_at
  start_range =
      range_then (mark_of magic s) _ (mark_range magic s) (λ (_, a).
      range_then (kind_at s a) _ (search ranges) (λ (_, b).
      range_then (id_at s b) _ (search ranges) (λ v. range_done _)))

  numbers_range : (at : ℕ) → InRange (numbers_at s at)
  unfolding numbers_at
  numbers_range at =
      range_then (varint_at s at) _ (varint_range s at) (λ (_, a).
      range_then (varint_at s a) _ (varint_range s a) (λ (_, b).
      range_then (varint_at s b) _ (varint_range s b) (λ v. range_done _)))

  frame_in_range : InRange (frame_of s)
  unfolding frame_of judged data_at
  frame_in_range =
      range_then (start_of s) _ start_range (λ (_, a).
      range_then (numbers_at s a) _ (numbers_range a) (λ (n, b).
      range_then (data_at s b n.len) _ (search ranges) (λ v. search ranges)))

  pub frame_range : (e place : ℕ) → frame_of s ≡ refused_at e place → (1 ≤ e) × (e < 256)
  frame_range e place h = (subst InRange h frame_in_range).small
