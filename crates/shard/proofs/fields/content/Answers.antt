-- `shard::fields::content` meets its contract: three fields, one after the other, and the rule over
-- the last two.
-- Assumes nothing.
use Rattle.shard.specs.Shard.{content_at}
use Rattle.wire.proofs.Answers.{reads, handed}
use borrow.Author.Tests.{not-true, not-false}
use Rattle.wire.proofs.Cases.{flag}
use Rattle.shard.proofs.fields.content.Goals as goal

pub returns-in_err-kind : goal.returns-in_err-kind
unfolding content_at
returns-in_err-kind c = search (reads, handed _ _ c.from_residual.ensures, c.in_err-kind.ensures) depth 40

pub returns-in_err-share : goal.returns-in_err-share
unfolding content_at
returns-in_err-share c = search (reads, handed _ _ c.from_residual-in_err-share.ensures, c.in_ok-kind.ensures, c.in_err-share.ensures) depth 40

pub returns-in_err-length : goal.returns-in_err-length
unfolding content_at
returns-in_err-length c = search (reads, handed _ _ c.from_residual-in_err-length.ensures, c.in_ok-kind.ensures, c.in_ok-share.ensures, c.in_err-length.ensures) depth 40

pub returns-then-not-fills : goal.returns-then-not-fills
unfolding content_at
returns-then-not-fills c = search (reads, flag, not-true, c.in_ok-kind.ensures, c.in_ok-share.ensures, c.in_ok-length.ensures) depth 40

pub returns : goal.returns
unfolding content_at
returns c = search (reads, flag, not-false, c.in_ok-kind.ensures, c.in_ok-share.ensures, c.in_ok-length.ensures) depth 40
