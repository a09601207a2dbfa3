-- What a state and a comparison say of a slot: for those who read a block and then go by cases.
-- Assumes nothing.
use mathlib.Core.Path.{◌≡◌, refl, ap}
use mathlib.Core.Bool.{true, false}
use mathlib.Core.List.{List}
use Prim.Native.Nat.{ℕ}
use native.Mathlib.Omega.{arith}
use Rattle.lend.specs.Same.{same}
use Rattle.lend.proofs.Sames.{same_eq}
use Rattle.model.specs.Book.{Slot, absent, held, disputed, data_of}
use Rattle.model.specs.Finish.{is_absent, is_held}
use Rattle.block.specs.Block.{state_of}
use Rattle.block.specs.Read.{holding}

-- the slot of a state
pub is_absent_lem : (p : Slot) → state_of p ≡ 0 → p ≡ absent
unfolding state_of
is_absent_lem absent e = refl
is_absent_lem (held d) e = absurd (omega arith)
is_absent_lem disputed e = absurd (omega arith)

pub is_held_lem : (p : Slot) → state_of p ≡ 1 → p ≡ held (data_of p)
unfolding state_of data_of
is_held_lem absent e = absurd (omega arith)
is_held_lem (held d) e = refl
is_held_lem disputed e = absurd (omega arith)

pub is_disputed_lem : (p : Slot) → state_of p ≡ 2 → p ≡ disputed
unfolding state_of
is_disputed_lem absent e = absurd (omega arith)
is_disputed_lem (held d) e = absurd (omega arith)
is_disputed_lem disputed e = refl

-- the tests of a slot, by its state
pub absent_yes : (p : Slot) → state_of p ≡ 0 → is_absent p ≡ true
unfolding is_absent
absent_yes p e = rw (is_absent_lem p e)

pub absent_no : (p : Slot) → (state_of p ≡ 0 → ⊥) → is_absent p ≡ false
unfolding state_of is_absent
absent_no absent n = absurd (n refl)
absent_no (held d) n = refl
absent_no disputed n = refl

pub said_absent : (p : Slot) → is_absent p ≡ true → p ≡ absent
unfolding is_absent
said_absent absent e = refl
said_absent (held d) e = cc
said_absent disputed e = cc

-- a page that holds d is the page of d, and the other way round
pub holding_yes : (p : Slot) (d : List ℕ) → holding p d ≡ true → p ≡ held d
unfolding holding is_held data_of
holding_yes absent d e = cc
holding_yes (held x) d e = ap held (same_eq x d e)
holding_yes disputed d e = cc

-- a held page that does not hold d holds other data
pub holding_no : (p : Slot) (d : List ℕ) → state_of p ≡ 1 → holding p d ≡ false → same (data_of p) d ≡ false
unfolding state_of holding is_held data_of
holding_no absent d s e = absurd (omega arith)
holding_no (held x) d s e = e
holding_no disputed d s e = absurd (omega arith)
