-- `recover::blocks` meets its contract. The invariant: the first k blocks fit, and stand there.
-- Assumes nothing.
use mathlib.Core.Path.{◌≡◌}
use mathlib.Core.List.{map}
use lib.ListN.{length}
use Rattle.recover.specs.Private.{slip_in}
use Rattle.recover.proofs.Filling.{Filled}
use Rattle.recover.proofs.blocks.Given as goal

abbrev pub invariant-loop-k : goal.invariant-loop-k
invariant-loop-k l = (length l.secret ≡ length l.initial.secret) × Filled l.t l.count (map slip_in l.slips) l.initial.secret l.secret l.k
