-- `speed::speed_blake2b` meets its contract. Assumes nothing.
use Rattle.speed.proofs.speed_blake2b.Goals as goal

pub returns : goal.returns
returns c = cc
