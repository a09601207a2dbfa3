-- Pages by the number of their state: 0 absent, 1 held, 2 disputed (R8.4).
use Rattle.std.specs.Prelude.{ℕ, Bool, eqb}
use Rattle.model.specs.Book.{Slot}
use Rattle.block.specs.Block.{state_of}

-- whether a page is in the state of this number. Length 0 is no state: a page may be held and have
-- no data (R9.9)
unfoldable pub in_state : ℕ → Slot → Bool
in_state s p = eqb (state_of p) s
