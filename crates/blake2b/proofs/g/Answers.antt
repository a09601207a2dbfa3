-- `blake2b::g` meets its contract. Each of the eight lines is a step on the vector that the line
-- before it left. Assumes nothing.
use Rattle.std.proofs.Common.{refl}
use Rattle.blake2b.specs.Blake2b.{G}
use Rattle.blake2b.proofs.Mixing.{added, turned}
use Rattle.blake2b.proofs.g.Goals as goal

pub returns : goal.returns
unfolding G
returns c =
    turned _ _ _ c.turn-4.ensures
    (added _ _ _ c.add-4.ensures
    (turned _ _ _ c.turn-3.ensures
    (added _ _ _ c.add-3.ensures
    (turned _ _ _ c.turn-2.ensures
    (added _ _ _ c.add-2.ensures
    (turned _ _ _ c.turn.ensures
    (added _ _ _ c.add.ensures refl)))))))
