-- What every collection of good pages keeps to: its size, its total, the size of its data, and
-- nothing from the total on.
use mathlib.Core.Path.{◌≡◌, refl, sym, ◌∙◌, subst}
use mathlib.Core.Bool.{Bool, true, false}
use mathlib.Core.List.{List, [], ◌∷◌}
use Prim.Native.Nat.{ℕ, zero, suc, ◌≤◌, ◌<◌}
use native.Mathlib.Omega.{arith}
use lib.ListN.{length, take, get_or, set, length-set}
use lib.Seq.{get_or-set_other}
use lib.Dec.{eqb}
use borrow.Author.Tests.{eqb-true}
use Rattle.wire.specs.Answer.{choose}
use Rattle.lend.specs.Same.{same}
use Rattle.model.specs.Book.{Slot, absent, held, disputed, data_of, Book, empty, collecting, disagree, no_pages}
use Rattle.model.specs.Take.{Page, join_slot, join_slots, take_page, join_book}
use Rattle.model.specs.Meaning.{SlotIs, BookIs}
use Rattle.model.proofs.Slots.{get_or_none, length_none, get_or_joins, length_joins}
use Rattle.model.proofs.Sets.{single, Sized, take_join}

-- what the frame reader accepts: INDEX below TOTAL, at most 96 pages, at most 480 bytes
pub record Good (p : Page) : Type 0 where
  pub below : p.index < p.total
  pub most : p.total ≤ 96
  pub short : length p.contents ≤ 480

-- it has an index that has a slot
pub good_index : (p : Page) → Good p → p.index < 96
good_index p g = omega (arith, g.below, g.most)

-- the data of every slot has a property
abbrev pub EachData : (List ℕ → Type 0) → List Slot → Type 0
EachData P ss = (k : ℕ) → P (data_of (get_or ss k absent))

-- as a frame's data
abbrev pub Short : List ℕ → Type 0
Short d = length d ≤ 480

-- a total and its slots
pub record ValidPages (t : ℕ) (ss : List Slot) : Type 0 where
  pub least : 1 ≤ t
  pub most : t ≤ 96
  pub slots : length ss ≡ 96
  pub short : EachData Short ss
  pub beyond : (k : ℕ) → t ≤ k → get_or ss k absent ≡ absent

-- what a collection of good pages keeps to; nothing is said where there are no pages
abbrev pub Valid : Book → Type 0
Valid empty = Unit {0}
Valid (collecting t ss) = ValidPages t ss
Valid disagree = Unit {0}

-- the data of every page of a collection has a property
abbrev pub BookData : (List ℕ → Type 0) → Book → Type 0
BookData P empty = Unit {0}
BookData P (collecting t ss) = EachData P ss
BookData P disagree = Unit {0}

-- ---- a property of data that no data has too

module _ (P : List ℕ → Type 0) (none : P []) where
  -- no page has other data
  pub data_none : EachData P no_pages
  unfolding data_of
  data_none k = rw (get_or_none k) none

  -- joining two slots keeps it
  pub data_join : (x y : Slot) → P (data_of x) → P (data_of y) → P (data_of (join_slot x y))
  unfolding join_slot data_of
  data_join absent y h k = k
  data_join (held d) absent h k = h
  data_join (held d) (held e) h k = go (same d e)
    where
      go : (w : Bool) → P (data_of (choose w (held d) disputed))
      go true = h
      go false = none
  data_join (held d) disputed h k = none
  data_join disputed y h k = none

  -- joining two lists of slots keeps it
  pub data_joins : (xs ys : List Slot) → EachData P xs → EachData P ys → EachData P (join_slots xs ys)
  unfolding join_slots
  data_joins [] ys f g k = f k
  data_joins (x ∷ xs) [] f g k = f k
  data_joins (x ∷ xs) (y ∷ ys) f g zero = data_join x y (f 0) (g 0)
  data_joins (x ∷ xs) (y ∷ ys) f g (suc k) = data_joins xs ys (λ j. f (suc j)) (λ j. g (suc j)) k

  -- setting one slot keeps it
  pub data_set : (ss : List Slot) (i : ℕ) (x : Slot) → EachData P ss → P (data_of x) → EachData P (set ss i x)
  data_set [] i x f h k = f k
  data_set (y ∷ ss) zero x f h zero = h
  data_set (y ∷ ss) zero x f h (suc k) = f (suc k)
  data_set (y ∷ ss) (suc i) x f h zero = f 0
  data_set (y ∷ ss) (suc i) x f h (suc k) = data_set ss i x (λ j. f (suc j)) h k

  -- the first slots have what all have
  pub data_take : (n : ℕ) (ss : List Slot) → EachData P ss → EachData P (take n ss)
  unfolding data_of
  data_take zero ss f k = none
  data_take (suc n) [] f k = f k
  data_take (suc n) (x ∷ ss) f zero = f 0
  data_take (suc n) (x ∷ ss) f (suc k) = data_take n ss (λ j. f (suc j)) k

  -- what a set of pages whose contents have it says of an index
  pub slot_data : (S : Page → Type 0) → ((p : Page) → S p → P p.contents) → (k : ℕ) (x : Slot) → SlotIs S k x → P (data_of x)
  unfolding data_of
  slot_data S f k absent m = none
  slot_data S f k (held d) m = subst P (m.1 m.0.0 m.0.1 m.0.2) (f m.0.0 m.0.1)
  slot_data S f k disputed m = none

  -- a set of pages whose contents have it means a collection whose data have it
  pub book_data : (S : Page → Type 0) → ((p : Page) → S p → P p.contents) → (b : Book) → BookIs S b → BookData P b
  book_data S f empty m = tt
  book_data S f (collecting t ss) m = λ k. slot_data S f k (get_or ss k absent) (m.3 k)
  book_data S f disagree m = tt

-- ---- valid collections

-- no data are short
pub short_none : Short []
short_none = omega arith

-- the empty collection is valid
pub valid_empty : Valid empty
valid_empty = tt

-- a valid collection has a slot for each index
pub valid_sized : (b : Book) → Valid b → Sized b
valid_sized empty v = tt
valid_sized (collecting t ss) v = v.slots
valid_sized disagree v = tt

both_absent : (x y : Slot) → x ≡ absent → y ≡ absent → join_slot x y ≡ absent
unfolding join_slot
both_absent x y e f = rw (e, f)

joined_valid : (t u : ℕ) (ss us : List Slot) (w : Bool) → eqb t u ≡ w → ValidPages t ss → ValidPages u us → Valid (choose w (collecting t (join_slots ss us)) disagree)
joined_valid t u ss us true e v w =
    let l : length ss ≡ length us = v.slots ∙ sym w.slots in
    let q : t ≡ u = eqb-true t u e in
    record {
      least = v.least;
      most = v.most;
      slots = length_joins ss us ∙ v.slots;
      short = data_joins Short short_none ss us v.short w.short;
      beyond = λ k h. get_or_joins ss us k l ∙ both_absent (get_or ss k absent) (get_or us k absent) (v.beyond k h) (w.beyond k (omega arith));
    }
joined_valid t u ss us false e v w = tt

-- joining two valid collections gives a valid one
pub valid_join : (a b : Book) → Valid a → Valid b → Valid (join_book a b)
unfolding join_book
valid_join empty b v w = w
valid_join (collecting t ss) empty v w = v
valid_join (collecting t ss) (collecting u us) v w = joined_valid t u ss us (eqb t u) refl v w
valid_join (collecting t ss) disagree v w = tt
valid_join disagree b v w = tt

-- the collection of one good page is valid
pub valid_single : (p : Page) → Good p → Valid (single p)
unfolding single data_of
valid_single p g = record {
  least = omega (arith, g.below);
  most = g.most;
  slots = length-set no_pages p.index (held p.contents) ∙ length_none;
  short = data_set Short short_none no_pages p.index (held p.contents) (data_none Short short_none) g.short;
  beyond = λ k h. get_or-set_other no_pages p.index k (held p.contents) absent (λ e. omega (arith, e, h, g.below)) ∙ get_or_none k;
}

-- taking a good page keeps a collection valid
pub valid_take : (p : Page) (b : Book) → Good p → Valid b → Valid (take_page p b)
valid_take p b g v = subst Valid (sym (take_join p b (good_index p g) (valid_sized b v))) (valid_join b (single p) v (valid_single p g))

no_page : (S : Page → Type 0) (k : ℕ) (x : Slot) → ((p : Page) → S p → p.index ≡ k → ⊥) → SlotIs S k x → x ≡ absent
no_page S k absent f m = refl
no_page S k (held d) f m = absurd (f m.0.0 m.0.1 m.0.2)
no_page S k disputed f m = absurd (f m.0 m.2 m.4)

-- a set of good pages means a valid collection
pub book_valid : (S : Page → Type 0) → ((p : Page) → S p → Good p) → (b : Book) → BookIs S b → Valid b
book_valid S f empty m = tt
book_valid S f (collecting t ss) m =
    let g : Good m.0.0 = f m.0.0 m.0.1 in
    let e : m.0.0.total ≡ t = m.1 m.0.0 m.0.1 in
    record {
      least = omega (arith, g.below, e);
      most = omega (arith, g.most, e);
      slots = m.2;
      short = book_data Short short_none S (λ p s. (f p s).short) (collecting t ss) m;
      beyond = λ k h. no_page S k (get_or ss k absent) (λ p s i. omega (arith, (f p s).below, m.1 p s, i)) (m.3 k);
    }
book_valid S f disagree m = tt
