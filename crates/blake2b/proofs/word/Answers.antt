-- `blake2b::word` meets its contract. Every entry of the table is below 16, by the table's rule.
-- Assumes nothing.
use Rattle.std.proofs.Common.{◌≡◌, ℕ, ◌<◌, List, [], get_or, arith}
use Rattle.blake2b.specs.Blake2b.{sigma, word}
use Rattle.blake2b.proofs.Tables.{sigma_small}
use Rattle.blake2b.proofs.word.Goals as goal

small : (sg : List (List ℕ)) (r i : ℕ) → (sg ≡ sigma) × (r < 12) × (i < 16) → get_or (get_or sg r []) i 0 < 16
small sg r i p = rw p.0 (sigma_small r i p.1 p.2)

pub bounds-m-from : goal.bounds-m-from
bounds-m-from c =
    let a = c.args in
    omega (arith, small a.sg.now a.r a.i c.requires, c.from.ensures)

pub returns : goal.returns
unfolding word
returns c = cc
