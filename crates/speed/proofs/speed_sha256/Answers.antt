-- `speed::speed_sha256` meets its contract. Assumes nothing.
use Rattle.speed.proofs.speed_sha256.Goals as goal

pub returns : goal.returns
returns c = cc
