-- `typed::lines::first_wrong` meets its contract. Assumes nothing.
use mathlib.Core.Path.{sym, ◌∙◌}
use Rattle.typed.proofs.Steps.{wrong_before, none_wrong, wrong_none, wrong_here}
use Rattle.typed.proofs.lines.first_wrong.Goals as goal

pub returns-then-is_some : goal.returns-then-is_some
returns-then-is_some c = wrong_before _ _ _ (sym c.is_some.ensures ∙ c.if-is_some.true)

pub returns-then-right : goal.returns-then-right
returns-then-right c =
    let a = c.args in
    wrong_none a.t.n a.t.wrong _ (none_wrong a.t.n _ a.line.now (sym c.is_some.ensures ∙ c.if-is_some.false)) _ c.right.ensures c.if-right.true

pub returns : goal.returns
returns c =
    let a = c.args in
    wrong_here a.t.n a.t.wrong _ (none_wrong a.t.n _ a.line.now (sym c.is_some.ensures ∙ c.if-is_some.false)) _ c.right.ensures c.if-right.false
