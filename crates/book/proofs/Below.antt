-- Pages by the number of their state, and by what the number means; the pages below a total.
-- Assumes nothing.
use mathlib.Core.Path.{◌≡◌, refl}
use mathlib.Core.Bool.{Bool}
use mathlib.Core.List.{List, [], ◌∷◌}
use Prim.Native.Nat.{ℕ, zero, suc, ◌≤◌}
use native.Mathlib.Omega.{arith}
use lib.ListN.{take}
use Rattle.model.specs.Book.{Slot, absent, held, disputed}
use Rattle.model.specs.Finish.{is_absent, is_held, is_disputed, lowest, count}
use Rattle.block.specs.Block.{state_of}
use Rattle.book.specs.Read.{read_pages}
use Rattle.book.specs.Tally.{in_state}

-- ---- the three states

pub in_absent : (p : Slot) → in_state 0 p ≡ is_absent p
unfolding in_state state_of is_absent
in_absent absent = refl
in_absent (held d) = refl
in_absent disputed = refl

pub in_held : (p : Slot) → in_state 1 p ≡ is_held p
unfolding in_state state_of is_held
in_held absent = refl
in_held (held d) = refl
in_held disputed = refl

pub in_disputed : (p : Slot) → in_state 2 p ≡ is_disputed p
unfolding in_state state_of is_disputed
in_disputed absent = refl
in_disputed (held d) = refl
in_disputed disputed = refl

-- two tests that always agree
module _ (f g : Slot → Bool) (agree : (p : Slot) → f p ≡ g p) where
  pub lowest_as : (ss : List Slot) → lowest f ss ≡ lowest g ss
  unfolding lowest
  lowest_as [] = refl
  lowest_as (x ∷ ss) = rw (agree x, lowest_as ss)

  pub count_as : (ss : List Slot) → count f ss ≡ count g ss
  unfolding count
  count_as [] = refl
  count_as (x ∷ ss) = rw (agree x, count_as ss)

-- ---- the pages below a total

-- the first t of n pages
pub take_read : (k n t : ℕ) (c : List ℕ) → t ≤ n → take t (read_pages k n c) ≡ read_pages k t c
unfolding read_pages
take_read k n zero c h = refl
take_read k zero (suc t) c h = absurd (omega arith)
take_read k (suc n) (suc t) c h = rw (take_read (suc k) n t c (omega arith))
