-- `blake2b::absorb` meets its contract. The words are what `words` ensures. Assumes nothing.
use Rattle.blake2b.proofs.absorb.Goals as goal

pub returns : goal.returns
returns c = cc
