-- `auth::write` meets its contract: each judgement in turn, then the write. Assumes nothing.
use Rattle.auth.proofs.Writers.{auth_public, auth_sig, auth_hash, auth_short, auth_fits, auth_done}
use Rattle.auth.proofs.write.Goals as goal

pub returns-then-public-ne32 : goal.returns-then-public-ne32
returns-then-public-ne32 c = search auth_public

pub returns-then-sig-ne64 : goal.returns-then-sig-ne64
returns-then-sig-ne64 c = search auth_sig

pub returns-then-hash-ne32 : goal.returns-then-hash-ne32
returns-then-hash-ne32 c = search auth_hash

pub returns-then-out-lt157 : goal.returns-then-out-lt157
returns-then-out-lt157 c = search auth_short

pub write_fitting-requires : goal.write_fitting-requires
write_fitting-requires c = search auth_fits

pub returns : goal.returns
returns c = search auth_done
