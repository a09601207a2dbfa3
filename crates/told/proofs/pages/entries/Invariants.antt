-- `told::pages::entries` meets its contract. Assumes nothing.
use lib.ListN.{length}
use Rattle.block.specs.Block.{state_number}
use Rattle.told.proofs.Lists.{Listing}
use Rattle.told.proofs.pages.entries.Given as goal

abbrev pub invariant-loop-k : goal.invariant-loop-k
invariant-loop-k l = Listing l.c l.initial.out l.total (state_number l.state) (length l.name) l.out l.at l.k
