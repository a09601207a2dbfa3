-- `blake2b::blocks` meets its contract. The loop's invariant: the state is that after the first k
-- blocks. Assumes nothing.
use Rattle.std.proofs.Common.{◌≡◌}
use Rattle.blake2b.specs.Blake2b.{blocks}
use Rattle.blake2b.proofs.blocks.Given as goal

abbrev pub invariant-loop-k : goal.invariant-loop-k
invariant-loop-k l = l.x ≡ blocks l.k l.s l.initial.x
