-- `sha256::compress` meets its contract. The code's table of constants is the standard's.
use mathlib.Core.Path.{refl}
use Rattle.sha256.specs.Constants.{k_words}
use Rattle.sha256.specs.Sha.{compress}
use Rattle.sha256.proofs.compress.Goals as goal

pub rounds-requires : goal.rounds-requires
unfolding k_words
rounds-requires c = refl

pub returns : goal.returns
unfolding compress
returns c = cc
