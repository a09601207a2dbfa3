-- What finish answers, said of the SET of pages: R1.6.
use mathlib.Core.Path.{◌≡◌, refl, sym, ap, ◌∙◌, subst}
use mathlib.Core.Bool.{Bool, true, false, false≢true}
use mathlib.Core.Logic.{◌⊎◌, inl, inr}
use mathlib.Core.List.{List, [], ◌∷◌, ◌++◌, map, flatten}
use Prim.Native.Nat.{ℕ, ◌≤◌, ◌<◌}
use native.Mathlib.Omega.{arith}
use lib.ListN.{length, take, get_or, length-map, get_or-map}
use lib.Seq.{get_or-take, length-take-le}
use lib.Dec.{ltb}
use borrow.Author.Tests.{ltb-true, ltb-false}
use Rattle.wire.specs.Answer.{choose, done, refused_at}
use Rattle.wire.proofs.Cases.{lt_or_le}
use Rattle.model.specs.Book.{Slot, absent, held, disputed, data_of, Book, empty, collecting, disagree}
use Rattle.model.specs.Take.{Page}
use Rattle.model.specs.Meaning.{SlotIs, BookIs}
use Rattle.model.specs.Complete.{Undisputed, DisputedAt, Present, Missing, Complete, FirstDisputed, FirstMissing, FinishIs}
use Rattle.model.specs.Finish.{is_absent, is_disputed, lowest, joined, finish_pages, finish_book}
use Rattle.model.proofs.Valid.{ValidPages, Valid}
use Rattle.model.proofs.Counts.{lowest_has, lowest_lacks}

-- ---- a slot, and what its set says

module _ (S : Page → Type 0) (k : ℕ) where
  pub is_disputed_lem : (x : Slot) → is_disputed x ≡ true → SlotIs S k x → DisputedAt S k
  unfolding is_disputed
  is_disputed_lem absent e m = absurd (false≢true e)
  is_disputed_lem (held d) e m = absurd (false≢true e)
  is_disputed_lem disputed e m = m

  pub agree_at : (x : Slot) → is_disputed x ≡ false → SlotIs S k x → (p q : Page) → S p → S q → p.index ≡ k → q.index ≡ k → p.contents ≡ q.contents
  unfolding is_disputed
  agree_at absent e m p q s t i j = absurd (m p s i)
  agree_at (held d) e m p q s t i j = m.1 p s i ∙ sym (m.1 q t j)
  agree_at disputed e m p q s t i j = absurd (false≢true (sym e))

  pub is_absent_lem : (x : Slot) → is_absent x ≡ true → SlotIs S k x → Missing S k
  unfolding is_absent
  is_absent_lem absent e m = m
  is_absent_lem (held d) e m = absurd (false≢true e)
  is_absent_lem disputed e m = absurd (false≢true e)

  pub not_absent : (x : Slot) → is_absent x ≡ false → SlotIs S k x → Present S k
  unfolding is_absent
  not_absent absent e m = absurd (false≢true (sym e))
  not_absent (held d) e m = m.0
  not_absent disputed e m = (m.0, m.2, m.4)

  is_held_lem : (x : Slot) → is_absent x ≡ false → is_disputed x ≡ false → SlotIs S k x → (p : Page) × S p × (p.index ≡ k) × (p.contents ≡ data_of x)
  unfolding is_absent is_disputed data_of
  is_held_lem absent e f m = absurd (false≢true (sym e))
  is_held_lem (held d) e f m = (m.0.0, m.0.1, m.0.2, m.1 m.0.0 m.0.1 m.0.2)
  is_held_lem disputed e f m = absurd (false≢true (sym f))

flatten_data : (ss : List Slot) → flatten (map data_of ss) ≡ joined ss
unfolding flatten joined
flatten_data [] = refl
flatten_data (x ∷ ss) = ap (λ (d : List ℕ). data_of x ++ d) (flatten_data ss)

part_at : (ss : List Slot) (k : ℕ) → get_or (map data_of ss) k [] ≡ data_of (get_or ss k absent)
unfolding data_of
part_at ss k = get_or-map data_of ss k absent

-- ---- the answer of a collection is what its set says

module _ (S : Page → Type 0) (t : ℕ) (ss : List Slot) (v : ValidPages t ss) (m : BookIs S (collecting t ss)) where
  below : List Slot
  below = take t ss

  below_length : length below ≡ t
  unfolding below
  below_length = length-take-le t ss (omega (arith, v.most, v.slots))

  below_slot : (k : ℕ) → k < t → SlotIs S k (get_or below k absent)
  unfolding below
  below_slot k h = subst (SlotIs S k) (sym (get_or-take t ss k absent h)) (m.3 k)

  lacks_below : (f : Slot → Bool) → length below ≤ lowest f below → (k : ℕ) → k < t → f (get_or below k absent) ≡ false
  lacks_below f l k h = lowest_lacks f below k (omega (arith, below_length))

  one_version : length below ≤ lowest is_disputed below → Undisputed S
  one_version l p q s r e = go (lt_or_le p.index t)
    where
      go : (p.index < t) ⊎ (t ≤ p.index) → p.contents ≡ q.contents
      go (inl h) = agree_at S p.index (get_or below p.index absent) (lacks_below is_disputed l p.index h) (below_slot p.index h) p q s r refl (sym e)
      go (inr h) = absurd (subst (SlotIs S p.index) (v.beyond p.index h) (m.3 p.index) p s refl)

  found_disputed : lowest is_disputed below < length below → FirstDisputed S (lowest is_disputed below)
  found_disputed h =
      let k = lowest is_disputed below in
      let l : k < t = omega (arith, below_length) in (
        t,
        (m.0, m.1),
        l,
        is_disputed_lem S k (get_or below k absent) (lowest_has is_disputed below h) (below_slot k l),
        λ j i w. w.6 (agree_at S j (get_or below j absent) (lowest_lacks is_disputed below j i) (below_slot j (omega arith)) w.0 w.1 w.2 w.3 w.4 w.5),
      )

  found_absent : length below ≤ lowest is_disputed below → lowest is_absent below < length below → FirstMissing S (lowest is_absent below)
  found_absent d h =
      let k = lowest is_absent below in
      let l : k < t = omega (arith, below_length) in
      inr (
        t,
        (m.0, m.1),
        one_version d,
        l,
        is_absent_lem S k (get_or below k absent) (lowest_has is_absent below h) (below_slot k l),
        λ j i. not_absent S j (get_or below j absent) (lowest_lacks is_absent below j i) (below_slot j (omega arith)),
      )

  found_all : length below ≤ lowest is_disputed below → length below ≤ lowest is_absent below → Complete S (joined below)
  found_all d a = record {
    pages = t;
    named = (m.0, m.1);
    agreed = one_version d;
    parts = map data_of below;
    number = length-map below data_of ∙ below_length;
    each = λ k h.
        let w = is_held_lem S k (get_or below k absent) (lacks_below is_absent a k h) (lacks_below is_disputed d k h) (below_slot k h) in
        (w.0, w.1, w.2, w.3 ∙ sym (part_at below k));
    in_order = flatten_data below;
  }

  pages_is : FinishIs S (finish_pages below)
  unfolding finish_pages
  pages_is = go (ltb (lowest is_disputed below) (length below)) (ltb (lowest is_absent below) (length below)) refl refl
    where
      go : (u w : Bool) → ltb (lowest is_disputed below) (length below) ≡ u → ltb (lowest is_absent below) (length below) ≡ w
          → FinishIs S (choose u (refused_at 15 (lowest is_disputed below)) (choose w (refused_at 16 (lowest is_absent below)) (done (joined below))))
      go true w e f = inr (inl (refl, found_disputed (ltb-true (lowest is_disputed below) (length below) e)))
      go false true e f =
          inr (inr (refl, found_absent (ltb-false (lowest is_disputed below) (length below) e) (ltb-true (lowest is_absent below) (length below) f)))
      go false false e f = found_all (ltb-false (lowest is_disputed below) (length below) e) (ltb-false (lowest is_absent below) (length below) f)

-- what finish answers is true of the set
pub finish_is : (S : Page → Type 0) (b : Book) → Valid b → BookIs S b → FinishIs S (finish_book b)
unfolding finish_book below
finish_is S empty v m = inr (inr (refl, inl (refl, m)))
finish_is S (collecting t ss) v m = pages_is S t ss v m
finish_is S disagree v m = inl (refl, refl, m)
