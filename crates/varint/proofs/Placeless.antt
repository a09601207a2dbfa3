-- What the reader of a varint refuses has no place. Assumes nothing.
use Prim.Native.Nat.{ℕ, zero, suc, ◌+◌, ◌%◌}
use mathlib.Core.List.{List, [], ◌∷◌}
use lib.Dec.{ltb}
use lib.ListN.{drop}
use Rattle.wire.specs.Answer.{Got, got}
use Rattle.wire.proofs.Placeless.{Placeless, placeless_done, placeless_choose, placeless_then, placeless}
use Rattle.varint.specs.Varint.{onto, ending, tenth, later_from, varint_from, varint_at}

onto_placeless : (n w : ℕ) (g : Got ℕ) → Placeless g → Placeless (onto n w g)
onto_placeless n w g p = placeless_then g _ p (λ q. placeless_done _)

later_placeless : (p i : ℕ) (bs : List ℕ) → Placeless (later_from p i bs)
unfolding later_from tenth ending
later_placeless p i [] = search placeless
later_placeless zero i (b ∷ bs) = search placeless
later_placeless (suc p) i (b ∷ bs) =
    placeless_choose (ltb b 128) (ending b (i + 1)) _ (search placeless) (onto_placeless (b % 128) 128 (later_from p (i + 1) bs) (later_placeless p (i + 1) bs))

from_placeless : (i : ℕ) (bs : List ℕ) → Placeless (varint_from i bs)
unfolding varint_from
from_placeless i [] = search placeless
from_placeless i (b ∷ bs) =
    placeless_choose (ltb b 128) (got b (i + 1)) _ (placeless_done _) (onto_placeless (b % 128) 128 (later_from 8 (i + 1) bs) (later_placeless 8 (i + 1) bs))

pub varint_placeless : (s : List ℕ) (at : ℕ) → Placeless (varint_at s at)
unfolding varint_at
varint_placeless s at = from_placeless at (drop at s)
