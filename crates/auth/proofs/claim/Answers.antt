-- `auth::claim` meets its contract: the map's head and three fields, one after the other.
-- Assumes nothing.
use Rattle.auth.specs.Auth.{claim_at}
use Rattle.wire.proofs.Answers.{reads}
use Rattle.auth.proofs.Answers.{handed_claim}
use Rattle.auth.proofs.claim.Goals as goal

pub returns-in_err-at : goal.returns-in_err-at
unfolding claim_at
returns-in_err-at c = search (reads, handed_claim _ _ c.from_residual.ensures, c.in_err-at.ensures) depth 40

pub returns-in_err-public : goal.returns-in_err-public
unfolding claim_at
returns-in_err-public c = search (reads, handed_claim _ _ c.from_residual-in_err-public.ensures, c.in_ok-at.ensures, c.in_err-public.ensures) depth 40

pub returns-in_err-sig : goal.returns-in_err-sig
unfolding claim_at
returns-in_err-sig c = search (reads, handed_claim _ _ c.from_residual-in_err-sig.ensures, c.in_ok-at.ensures, c.in_ok-public.ensures, c.in_err-sig.ensures) depth 40

pub returns-in_err-hash : goal.returns-in_err-hash
unfolding claim_at
returns-in_err-hash c = search (reads, handed_claim _ _ c.from_residual-in_err-hash.ensures, c.in_ok-at.ensures, c.in_ok-public.ensures, c.in_ok-sig.ensures, c.in_err-hash.ensures) depth 40

pub returns : goal.returns
unfolding claim_at
returns c = search (reads, c.in_ok-at.ensures, c.in_ok-public.ensures, c.in_ok-sig.ensures, c.in_ok-hash.ensures) depth 40
