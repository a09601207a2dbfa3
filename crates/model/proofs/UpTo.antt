-- The first k slots of two lists joined, and the rest of the first as it was: what a loop over the
-- slots has done after k turns.
use mathlib.Core.Path.{◌≡◌, refl, sym, ap, ◌∙◌}
use mathlib.Core.List.{List, [], ◌∷◌}
use Prim.Native.Nat.{ℕ, zero, suc, ◌+◌, ◌<◌}
use native.Mathlib.Omega.{arith}
use native.Mathlib.Numerals.{add-one}
use lib.ListN.{length, get_or, set}
use Rattle.model.specs.Book.{Slot, absent}
use Rattle.model.specs.Take.{join_slot, join_slots}

unfoldable pub up_to : ℕ → List Slot → List Slot → List Slot
up_to zero xs ys = xs
up_to (suc k) [] ys = []
up_to (suc k) (x ∷ xs) [] = x ∷ xs
up_to (suc k) (x ∷ xs) (y ∷ ys) = join_slot x y ∷ up_to k xs ys

-- before the first turn nothing is joined
pub up_to_none : (xs ys : List Slot) → up_to 0 xs ys ≡ xs
unfolding up_to
up_to_none xs ys = refl

-- after the last all are
pub up_to_all : (xs ys : List Slot) → up_to (length xs) xs ys ≡ join_slots xs ys
unfolding up_to join_slots
up_to_all [] ys = refl
up_to_all (x ∷ xs) [] = refl
up_to_all (x ∷ xs) (y ∷ ys) = ap (λ (l : List Slot). join_slot x y ∷ l) (up_to_all xs ys)

-- the slot of the next turn is as it was
pub up_to_get : (k : ℕ) (xs ys : List Slot) → get_or (up_to k xs ys) k absent ≡ get_or xs k absent
unfolding up_to
up_to_get zero xs ys = refl
up_to_get (suc k) [] ys = refl
up_to_get (suc k) (x ∷ xs) [] = refl
up_to_get (suc k) (x ∷ xs) (y ∷ ys) = up_to_get k xs ys

set_suc : (k : ℕ) (xs ys : List Slot) → length xs ≡ length ys → k < length xs → set (up_to k xs ys) k (join_slot (get_or xs k absent) (get_or ys k absent)) ≡ up_to (suc k) xs ys
unfolding up_to
set_suc zero (x ∷ xs) (y ∷ ys) e h = refl
set_suc zero (x ∷ xs) [] e h = absurd (omega arith)
set_suc zero [] ys e h = absurd (omega arith)
set_suc (suc k) [] ys e h = absurd (omega arith)
set_suc (suc k) (x ∷ xs) [] e h = absurd (omega arith)
set_suc (suc k) (x ∷ xs) (y ∷ ys) e h = ap (λ (l : List Slot). join_slot x y ∷ l) (set_suc k xs ys (omega arith) (omega arith))

-- a turn joins the next slot in its place
pub up_to_set : (k : ℕ) (xs ys : List Slot) → length xs ≡ length ys → k < length xs → set (up_to k xs ys) k (join_slot (get_or xs k absent) (get_or ys k absent)) ≡ up_to (k + 1) xs ys
up_to_set k xs ys e h = set_suc k xs ys e h ∙ ap (λ (n : ℕ). up_to n xs ys) (sym (add-one k))
