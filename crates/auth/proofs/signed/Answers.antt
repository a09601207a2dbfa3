-- `auth::signed` meets its contract: each judgement in turn, then the write. Assumes nothing.
use Rattle.auth.proofs.Writers.{signed_public, signed_hash, signed_short, signed_fits, signed_done}
use Rattle.auth.proofs.signed.Goals as goal

pub returns-then-public-ne32 : goal.returns-then-public-ne32
returns-then-public-ne32 c = search signed_public

pub returns-then-hash-ne32 : goal.returns-then-hash-ne32
returns-then-hash-ne32 c = search signed_hash

pub returns-then-out-lt104 : goal.returns-then-out-lt104
returns-then-out-lt104 c = search signed_short

pub signed_fitting-requires : goal.signed_fitting-requires
signed_fitting-requires c = search signed_fits

pub returns : goal.returns
returns c = search signed_done
