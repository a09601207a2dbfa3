-- From the contracts of `auth` in the source to the definitions that the demands cite.
-- Assumes nothing.
use mathlib.Core.Path.{◌≡◌}
use Rattle.wire.specs.Writing.{Written}
use Rattle.promises.specs.Calls.{Call}
use Rattle.auth.specs.Auth.{auth_at, auth_verdict}
use Rattle.auth.specs.Answer.{claim_told}
use Rattle.auth.proofs.read as auth-read
use Rattle.auth.proofs.write as auth-write

pub auth_read_link : (k : Call auth-read.Kinds.ps auth-read.Kinds.r auth-read.Reads.Learnt) → claim_told k.answer ≡ auth_at k.args.0.now
auth_read_link k = k.kept

pub auth_write_link : (k : Call auth-write.Kinds.ps auth-write.Kinds.r auth-write.Reads.Learnt)
    → Written 0 (auth_verdict k.args.0.now k.args.1.0.now k.args.1.1.0.now) k.args.1.1.1.0.now k.left.1.1.1.0 k.answer
auth_write_link k = k.kept
