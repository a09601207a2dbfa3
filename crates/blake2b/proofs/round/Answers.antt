-- `blake2b::round` meets its contract. Each of the eight lines is a G on the vector that the line
-- before it left. Assumes nothing.
use Rattle.std.proofs.Common.{ℕ, List, refl, rules}
use Rattle.blake2b.specs.Blake2b.{round}
use Rattle.blake2b.proofs.Mixing.{mixed}
use Rattle.blake2b.proofs.round.Goals as goal

-- the `requires` lies past the 128 records that `search` looks into, so it is named
pub step-requires-8 : goal.step-requires-8
step-requires-8 c =
    let p = c.requires in
    search rules

pub returns : goal.returns
unfolding round
returns c =
    let a = c.args in
    let m : List ℕ = a.m.now in
    mixed m a.r 14 3 4 9 14 c.step-8.ensures
    (mixed m a.r 12 2 7 8 13 c.step-7.ensures
    (mixed m a.r 10 1 6 11 12 c.step-6.ensures
    (mixed m a.r 8 0 5 10 15 c.step-5.ensures
    (mixed m a.r 6 3 7 11 15 c.step-4.ensures
    (mixed m a.r 4 2 6 10 14 c.step-3.ensures
    (mixed m a.r 2 1 5 9 13 c.step-2.ensures
    (mixed m a.r 0 0 4 8 12 c.step.ensures refl)))))))
