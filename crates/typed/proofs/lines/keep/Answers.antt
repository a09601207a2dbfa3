-- `typed::lines::keep` meets its contract. Assumes nothing.
use Rattle.typed.proofs.Judging.{keep_none, keep_one}
use Rattle.typed.proofs.lines.keep.Goals as goal

pub returns-then-skipped : goal.returns-then-skipped
returns-then-skipped c = keep_none _ _ _ _ c.skipped.ensures c.if-skipped.true

pub returns : goal.returns
returns c =
    keep_one _ _ _ _ _ c.skipped.ensures c.if-skipped.false c.put.ensures
