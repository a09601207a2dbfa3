-- Slots and lists of slots: joining two, and no slot held.
use mathlib.Core.Path.{◌≡◌, refl, sym, ap, ◌∙◌}
use mathlib.Core.Bool.{Bool, true, false}
use mathlib.Core.List.{List, [], ◌∷◌}
use Prim.Native.Nat.{ℕ, zero, suc, ◌<◌}
use native.Mathlib.Omega.{arith}
use lib.ListN.{length, get_or, set, length-set, replicate, length-replicate}
use lib.Seq.{ext_get_or, get_or-set_same, get_or-set_other}
use lib.Dec.{eqb}
use borrow.Author.Tests.{eqb-true, eqb-false}
use Rattle.lend.proofs.Sames.{same_refl, same_ne}
use Rattle.model.specs.Book.{Slot, absent, held, disputed, no_pages}
use Rattle.model.specs.Take.{join_slot, join_slots}

-- ---- one slot joined to another

-- an absent slot adds nothing
pub join_absent : (x : Slot) → join_slot x absent ≡ x
unfolding join_slot
join_absent absent = refl
join_absent (held d) = refl
join_absent disputed = refl

-- a disputed slot makes the result so
pub join_disputed : (x : Slot) → join_slot x disputed ≡ disputed
unfolding join_slot
join_disputed absent = refl
join_disputed (held d) = refl
join_disputed disputed = refl

-- data that are held already leave the page as it is
pub join_again : (d e : List ℕ) → d ≡ e → join_slot (held d) (held e) ≡ held d
unfolding join_slot
join_again d e q = rw (← q, same_refl d)

-- other data make the slot disputed
pub join_other : (d e : List ℕ) → (d ≡ e → ⊥) → join_slot (held d) (held e) ≡ disputed
unfolding join_slot
join_other d e n = rw (same_ne d e n)

-- two versions stay, whatever is added
pub join_stays : (y : Slot) → join_slot disputed y ≡ disputed
unfolding join_slot
join_stays y = refl

-- what an absent slot is joined to is the result
pub join_first : (y : Slot) → join_slot absent y ≡ y
unfolding join_slot
join_first y = refl

-- ---- no pages

-- every slot of no pages is absent
pub get_or_none : (k : ℕ) → get_or no_pages k absent ≡ absent
unfolding no_pages
get_or_none k = go 96 k
  where
    go : (n i : ℕ) → get_or (replicate n absent) i absent ≡ absent
    go zero i = refl
    go (suc n) zero = refl
    go (suc n) (suc i) = go n i

-- and there are 96 of them
pub length_none : length no_pages ≡ 96
unfolding no_pages
length_none = length-replicate 96 absent

-- 96 absent slots are no pages
pub none_is : (ss : List Slot) → length ss ≡ 96 → ((k : ℕ) → get_or ss k absent ≡ absent) → ss ≡ no_pages
none_is ss l f = ext_get_or absent ss no_pages (l ∙ sym length_none) (λ k h. f k ∙ sym (get_or_none k))

-- ---- lists of slots joined

-- slot for slot
pub get_or_joins : (xs ys : List Slot) (k : ℕ) → length xs ≡ length ys → get_or (join_slots xs ys) k absent ≡ join_slot (get_or xs k absent) (get_or ys k absent)
unfolding join_slots join_slot
get_or_joins [] [] k e = refl
get_or_joins [] (y ∷ ys) k e = absurd (omega arith)
get_or_joins (x ∷ xs) [] k e = absurd (omega arith)
get_or_joins (x ∷ xs) (y ∷ ys) zero e = refl
get_or_joins (x ∷ xs) (y ∷ ys) (suc k) e = get_or_joins xs ys k (omega arith)

-- as many slots as before
pub length_joins : (xs ys : List Slot) → length (join_slots xs ys) ≡ length xs
unfolding join_slots
length_joins [] ys = refl
length_joins (x ∷ xs) [] = refl
length_joins (x ∷ xs) (y ∷ ys) = ap suc (length_joins xs ys)

at_take : (ss : List Slot) (i : ℕ) (y : Slot) → length ss ≡ 96 → i < 96 → (k : ℕ) (w : Bool) → eqb k i ≡ w
    → get_or (set ss i (join_slot (get_or ss i absent) y)) k absent ≡ join_slot (get_or ss k absent) (get_or (set no_pages i y) k absent)
at_take ss i y l h k true e =
    let j : k ≡ i = eqb-true k i e in
    rw (j, get_or-set_same ss i (join_slot (get_or ss i absent) y) absent (omega arith), get_or-set_same no_pages i y absent (omega (arith, length_none)))
at_take ss i y l h k false e =
    let n : k ≡ i → ⊥ = eqb-false k i e in
    rw (get_or-set_other ss i k (join_slot (get_or ss i absent) y) absent n, get_or-set_other no_pages i k y absent n, get_or_none k, join_absent (get_or ss k absent))

-- joining one slot in its place is joining the list that has that slot alone
pub set_joins : (ss : List Slot) (i : ℕ) (y : Slot) → length ss ≡ 96 → i < 96 → set ss i (join_slot (get_or ss i absent) y) ≡ join_slots ss (set no_pages i y)
set_joins ss i y l h =
    let e : length (set no_pages i y) ≡ 96 = length-set no_pages i y ∙ length_none in
    ext_get_or absent (set ss i (join_slot (get_or ss i absent) y)) (join_slots ss (set no_pages i y))
    (length-set ss i (join_slot (get_or ss i absent) y) ∙ sym (length_joins ss (set no_pages i y)))
    (λ k m. at_take ss i y l h k (eqb k i) refl ∙ sym (get_or_joins ss (set no_pages i y) k (l ∙ sym e)))
