-- `shard::judge::rest_fits` meets its contract: the rule that a test breaks, and all of them at the
-- end. Assumes nothing.
use native.Mathlib.Omega.{arith}
use Rattle.shard.proofs.Allowed.{rest_no, rest_unknown, rest_unfilled, rest_last}
use Rattle.shard.proofs.judge.rest_fits.Goals as goal

pub returns-then-r-ne32 : goal.returns-then-r-ne32
returns-then-r-ne32 c = rest_no _ _ _ _ _ (λ a. omega (arith, a.hash_long))

pub returns-then-not-is_known : goal.returns-then-not-is_known
returns-then-not-is_known c = search rest_unknown

pub returns-then-size : goal.returns-then-size
returns-then-size c = rest_no _ _ _ _ _ (λ a. omega (arith, a.content.most))

pub returns-then-r-lt1 : goal.returns-then-r-lt1
returns-then-r-lt1 c = rest_no _ _ _ _ _ (λ a. omega (arith, a.content.least))

pub returns-then-not-fills : goal.returns-then-not-fills
returns-then-not-fills c = search rest_unfilled

pub returns-then-q-lt1 : goal.returns-then-q-lt1
returns-then-q-lt1 c = rest_no _ _ _ _ _ (λ a. omega (arith, a.quorum.some))

pub returns-then-q : goal.returns-then-q
returns-then-q c = rest_no _ _ _ _ _ (λ a. omega (arith, a.quorum.enough))

pub returns-then-q-lt1-2 : goal.returns-then-q-lt1-2
returns-then-q-lt1-2 c = rest_no _ _ _ _ _ (λ a. omega (arith, a.quorum.first))

pub returns-then-q-2 : goal.returns-then-q-2
returns-then-q-2 c = rest_no _ _ _ _ _ (λ a. omega (arith, a.quorum.last))

pub returns : goal.returns
returns c = search rest_last
