-- `blake2b::step` meets its contract. The two words are what `word` ensures. Assumes nothing.
use Rattle.blake2b.proofs.step.Goals as goal

pub returns : goal.returns
returns c = cc
