-- `recover::combine` meets its contract: 26, 27, 28, or what the fitting slips give.
-- Assumes nothing.
use Rattle.recover.proofs.Verdicts.{too_few, of_two_secrets, one_twice, as_fitted}
use Rattle.recover.proofs.combine.Goals as goal

pub returns-then-count-first : goal.returns-then-count-first
returns-then-count-first c = search too_few

pub returns-then-not-alike : goal.returns-then-not-alike
returns-then-not-alike c = search of_two_secrets

pub returns-then-not-distinct : goal.returns-then-not-distinct
returns-then-not-distinct c = search one_twice

pub returns : goal.returns
returns c = search as_fitted
