-- `blake2b::last` meets its contract. The state is what `absorb` ensures. Assumes nothing.
use Rattle.blake2b.proofs.last.Goals as goal

pub returns : goal.returns
returns c = cc
