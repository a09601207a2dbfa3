-- How many slots have a property, which is the lowest, and the data in order: for loops over the
-- slots, and for what finish says.
use mathlib.Core.Path.{◌≡◌, refl, ap, ◌∙◌}
use mathlib.Core.Bool.{Bool, true, false}
use mathlib.Core.List.{List, [], ◌∷◌, ◌++◌}
use Prim.Native.Nat.{ℕ, zero, suc, ◌+◌, ◌*◌, ◌≤◌, ◌<◌}
use native.Mathlib.Omega.{arith}
use native.Mathlib.Numerals.{add-one}
use lib.ListN.{length, take, drop, get_or, length-append}
use lib.Seq.{take-suc, drop-cons}
use Rattle.wire.specs.Answer.{choose}
use Rattle.model.specs.Book.{Slot, absent, held, disputed, data_of}
use Rattle.model.specs.Finish.{is_absent, is_held, is_disputed, lowest, count, joined}
use Rattle.model.proofs.Valid.{EachData, Short}

-- ---- counting

-- 1 where the slot has the property
abbrev pub one : (Slot → Bool) → Slot → ℕ
one f x = choose (f x) 1 0

one_of_three : (x : Slot) → one is_absent x + one is_held x + one is_disputed x ≡ 1
unfolding is_absent is_held is_disputed
one_of_three absent = refl
one_of_three (held d) = refl
one_of_three disputed = refl

-- For the reader: each slot is absent, held or disputed, and only one of them
pub count_three : (ss : List Slot) → count is_absent ss + count is_held ss + count is_disputed ss ≡ length ss
unfolding count
count_three [] = refl
count_three (x ∷ ss) = omega (arith, one_of_three x, count_three ss)

module _ (f : Slot → Bool) where
  -- the count of two lists
  pub count_append : (xs ys : List Slot) → count f (xs ++ ys) ≡ count f xs + count f ys
  unfolding count
  count_append [] ys = omega arith
  count_append (x ∷ xs) ys = omega (arith, count_append xs ys)

  -- one more slot behind
  pub count_snoc : (xs : List Slot) (x : Slot) → count f (xs ++ (x ∷ [])) ≡ count f xs + one f x
  unfolding count
  count_snoc xs x = omega (arith, count_append xs (x ∷ []))

  -- ---- the lowest

  -- the lowest has the property
  pub lowest_has : (ss : List Slot) → lowest f ss < length ss → f (get_or ss (lowest f ss) absent) ≡ true
  unfolding lowest
  lowest_has [] h = absurd (omega arith)
  lowest_has (x ∷ ss) h = go (f x) refl h (λ k. lowest_has ss k)
    where
      go : (w : Bool) → f x ≡ w → choose w 0 (suc (lowest f ss)) < suc (length ss) → (lowest f ss < length ss → f (get_or ss (lowest f ss) absent) ≡ true)
          → f (get_or (x ∷ ss) (choose w 0 (suc (lowest f ss))) absent) ≡ true
      go true e k r = e
      go false e k r = r (omega arith)

  -- and all below it lack it
  pub lowest_lacks : (ss : List Slot) (j : ℕ) → j < lowest f ss → f (get_or ss j absent) ≡ false
  unfolding lowest
  lowest_lacks [] j h = absurd (omega arith)
  lowest_lacks (x ∷ ss) j h = go (f x) refl j h (λ i k. lowest_lacks ss i k)
    where
      go : (w : Bool) → f x ≡ w → (i : ℕ) → i < choose w 0 (suc (lowest f ss)) → ((m : ℕ) → m < lowest f ss → f (get_or ss m absent) ≡ false)
          → f (get_or (x ∷ ss) i absent) ≡ false
      go true e i k r = absurd (omega arith)
      go false e zero k r = e
      go false e (suc i) k r = r i (omega arith)

  -- ---- turns of a loop over the slots: the first k done, or those from k on to do

  module _ (ss : List Slot) (k : ℕ) (h : k < length ss) where
    turned : take (k + 1) ss ≡ take k ss ++ (get_or ss k absent ∷ [])
    turned = rw add-one (take-suc ss k absent h)

    -- the count grows by the slot of this turn
    pub count_turn : count f (take (k + 1) ss) ≡ count f (take k ss) + one f (get_or ss k absent)
    count_turn = ap (count f) turned ∙ count_snoc (take k ss) (get_or ss k absent)

    rest : drop k ss ≡ get_or ss k absent ∷ drop (k + 1) ss
    rest = rw add-one (drop-cons ss k absent h)

    -- the lowest of what is to do
    pub lowest_rest : lowest f (drop k ss) ≡ choose (f (get_or ss k absent)) 0 (suc (lowest f (drop (k + 1) ss)))
    unfolding lowest
    lowest_rest = ap (lowest f) rest

-- ---- the data in order

-- at most 480 bytes for each slot
pub joined_most : (ss : List Slot) → EachData Short ss → length (joined ss) ≤ 480 * length ss
unfolding joined
joined_most [] f = omega arith
joined_most (x ∷ ss) f = omega (arith, length-append (data_of x) (joined ss), f 0, joined_most ss (λ k. f (suc k)))
