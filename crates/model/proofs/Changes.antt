-- What an offer changes in a collection: at most one slot, or everything at once where totals
-- disagree. For the proofs of code.
use mathlib.Core.Path.{◌≡◌, refl, ap, ◌∙◌}
use mathlib.Core.Bool.{Bool, true, false}
use mathlib.Core.Logic.{◌⊎◌, inl, inr}
use mathlib.Core.List.{List}
use Prim.Native.Nat.{ℕ, ◌≤◌, ◌<◌}
use native.Mathlib.Omega.{arith}
use lib.ListN.{length, get_or, set}
use lib.Seq.{get_or-set_same}
use borrow.Author.Tests.{eq-eqb, ne_eqb}
use Rattle.wire.specs.Answer.{choose}
use Rattle.wire.proofs.Cases.{eq_or_ne}
use Rattle.lend.specs.Same.{same}
use Rattle.lend.proofs.Sames.{same_eq}
use Rattle.model.specs.Book.{Slot, absent, held, disputed, Book, empty, collecting, disagree, no_pages}
use Rattle.model.specs.Take.{Page, join_slot, join_slots, take_page, join_book, kind_of_slot, kind_of}
use Rattle.model.proofs.Slots.{length_none}
use Rattle.model.proofs.Valid.{Good, good_index, Valid}

-- ---- what the slot of the page's index becomes

-- the slot after the offer of contents d
abbrev pub offered : List Slot → ℕ → List ℕ → Slot
offered ss i d = join_slot (get_or ss i absent) (held d)

-- a slot to which an offer was made is held or disputed
pub offered_kinds : (x : Slot) (d : List ℕ) → (join_slot x (held d) ≡ held d) ⊎ (join_slot x (held d) ≡ disputed)
unfolding join_slot
offered_kinds absent d = inl refl
offered_kinds (held e) d = go (same e d) refl
  where
    go : (w : Bool) → same e d ≡ w → (choose w (held e) disputed ≡ held d) ⊎ (choose w (held e) disputed ≡ disputed)
    go true f = inl (ap held (same_eq e d f))
    go false f = inr refl
offered_kinds disputed d = inr refl

-- ---- the collection after an offer

module _ (p : Page) where
  -- the first page fixes the total
  pub take_first : take_page p empty ≡ collecting p.total (set no_pages p.index (held p.contents))
  unfolding take_page
  take_first = refl

  -- the same total: one slot is set
  pub take_set : (t : ℕ) (ss : List Slot) → p.total ≡ t → take_page p (collecting t ss) ≡ collecting t (set ss p.index (offered ss p.index p.contents))
  unfolding take_page
  take_set t ss e = rw (eq-eqb p.total t e)

  -- another total: all is lost
  pub take_other_total : (t : ℕ) (ss : List Slot) → (p.total ≡ t → ⊥) → take_page p (collecting t ss) ≡ disagree
  unfolding take_page
  take_other_total t ss n = rw (ne_eqb p.total t n)

  -- for good
  pub take_disagree : take_page p disagree ≡ disagree
  unfolding take_page
  take_disagree = refl

-- ---- offer's answer

-- a slot that was offered to answers 1 or 2
pub kind_offered : (x : Slot) (d : List ℕ) → (1 ≤ kind_of_slot (join_slot x (held d))) × (kind_of_slot (join_slot x (held d)) ≤ 2)
unfolding kind_of_slot
kind_offered x d = go (offered_kinds x d)
  where
    go : (join_slot x (held d) ≡ held d) ⊎ (join_slot x (held d) ≡ disputed) → (1 ≤ kind_of_slot (join_slot x (held d))) × (kind_of_slot (join_slot x (held d)) ≤ 2)
    go (inl e) = rw e (omega arith)
    go (inr e) = rw e (omega arith)

-- the answer of an offer with the same total is the kind of the slot as set
pub kind_set : (p : Page) (t : ℕ) (ss : List Slot) → p.index < length ss → p.total ≡ t → kind_of p.index (take_page p (collecting t ss)) ≡ kind_of_slot (offered ss p.index p.contents)
unfolding kind_of
kind_set p t ss h e = ap (kind_of p.index) (take_set p t ss e) ∙ ap kind_of_slot (get_or-set_same ss p.index (offered ss p.index p.contents) absent h)

-- the first page is held
pub kind_first : (p : Page) → p.index < 96 → kind_of p.index (take_page p empty) ≡ 1
unfolding kind_of kind_of_slot take_page
kind_first p h = rw (get_or-set_same no_pages p.index (held p.contents) absent (omega (arith, length_none)))

-- another total answers 3
pub kind_other_total : (p : Page) (t : ℕ) (ss : List Slot) → (p.total ≡ t → ⊥) → kind_of p.index (take_page p (collecting t ss)) ≡ 3
unfolding kind_of
kind_other_total p t ss n = ap (kind_of p.index) (take_other_total p t ss n)

-- every later offer answers 3 too
pub kind_disagree : (p : Page) → kind_of p.index (take_page p disagree) ≡ 3
unfolding kind_of take_page
kind_disagree p = refl

-- For the reader: a page that was taken is not absent, so the answer is 1, 2 or 3, as
-- include/stiltbasket.h says
pub kind_taken : (p : Page) (b : Book) → Good p → Valid b → (1 ≤ kind_of p.index (take_page p b)) × (kind_of p.index (take_page p b) ≤ 3)
kind_taken p empty g v = omega (arith, kind_first p (good_index p g))
kind_taken p (collecting t ss) g v = go (eq_or_ne p.total t)
  where
    go : (p.total ≡ t) ⊎ (p.total ≡ t → ⊥) → (1 ≤ kind_of p.index (take_page p (collecting t ss))) × (kind_of p.index (take_page p (collecting t ss)) ≤ 3)
    go (inl e) = rw (kind_set p t ss (omega (arith, good_index p g, v.slots)) e) (omega (arith, kind_offered (get_or ss p.index absent) p.contents))
    go (inr n) = omega (arith, kind_other_total p t ss n)
kind_taken p disagree g v = omega (arith, kind_disagree p)

-- ---- the collection after a join

-- an empty collection adds nothing
pub join_empty : (b : Book) → join_book b empty ≡ b
unfolding join_book
join_empty empty = refl
join_empty (collecting t ss) = refl
join_empty disagree = refl

-- to an empty one, the other is the result
pub join_to_empty : (b : Book) → join_book empty b ≡ b
unfolding join_book
join_to_empty b = refl

-- totals that disagree on either side do so in the result
pub join_disagree : (b : Book) → join_book b disagree ≡ disagree
unfolding join_book
join_disagree empty = refl
join_disagree (collecting t ss) = refl
join_disagree disagree = refl

-- and so on the other side
pub join_to_disagree : (b : Book) → join_book disagree b ≡ disagree
unfolding join_book
join_to_disagree b = refl

module _ (t u : ℕ) (ss us : List Slot) where
  -- one total: slot for slot
  pub join_one_total : t ≡ u → join_book (collecting t ss) (collecting u us) ≡ collecting t (join_slots ss us)
  unfolding join_book
  join_one_total e = rw (eq-eqb t u e)

  -- two totals
  pub join_two_totals : (t ≡ u → ⊥) → join_book (collecting t ss) (collecting u us) ≡ disagree
  unfolding join_book
  join_two_totals n = rw (ne_eqb t u n)
