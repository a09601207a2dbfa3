-- What a mark's reader refuses has no place. Assumes nothing.
use Prim.Native.Nat.{ℕ}
use mathlib.Core.List.{List}
use lib.Dec.{ltb}
use lib.ListN.{length, take}
use Rattle.wire.specs.Answer.{refused}
use Rattle.wire.proofs.Placeless.{Placeless, placeless_choose, placeless_demand, placeless_then, placeless, no_place_3, no_place_4}
use Rattle.lend.specs.Same.{same}
use Rattle.varint.specs.Varint.{varint_at}
use Rattle.varint.proofs.Placeless.{varint_placeless}
use Rattle.mark.specs.Mark.{version_at, mark_of}

version_placeless : (s : List ℕ) (at : ℕ) → Placeless (version_at s at)
unfolding version_at
version_placeless s at = placeless_then (varint_at s at) _ (varint_placeless s at) (λ v. search placeless)

pub mark_placeless : (magic s : List ℕ) → Placeless (mark_of magic s)
unfolding mark_of
mark_placeless magic s =
    let n : ℕ = length magic in
    placeless_choose (ltb (length s) n) (refused 3) _ (no_place_3) (placeless_demand (same (take n s) magic) no_place_4 (version_placeless s n))
