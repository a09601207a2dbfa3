-- `auth::read` meets its contract: the claim, the version and the end.
-- Assumes nothing.
use Rattle.auth.specs.Auth.{auth_at}
use Rattle.wire.proofs.Answers.{reads}
use Rattle.auth.proofs.Answers.{handed_claim}
use Rattle.auth.proofs.read.Goals as goal

pub returns-in_err-c : goal.returns-in_err-c
unfolding auth_at
returns-in_err-c c = search (reads, handed_claim _ _ c.from_residual.ensures, c.in_err-c.ensures) depth 40

pub returns-in_err-next : goal.returns-in_err-next
unfolding auth_at
returns-in_err-next c = search (reads, handed_claim _ _ c.from_residual-in_err-next.ensures, c.in_ok-c.ensures, c.in_err-next.ensures) depth 40

pub returns-then-next-s : goal.returns-then-next-s
unfolding auth_at
returns-then-next-s c = search (reads, c.in_ok-c.ensures, c.in_ok-next.ensures) depth 40

pub returns : goal.returns
unfolding auth_at
returns c = search (reads, c.in_ok-c.ensures, c.in_ok-next.ensures) depth 40
