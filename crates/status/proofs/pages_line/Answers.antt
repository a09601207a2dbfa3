-- `status::pages_line` meets its contract. Assumes nothing.
use mathlib.Core.Path.{sym, ◌∙◌}
use Rattle.status.proofs.Lines.{written_as, pages_laid, numbered}
use Rattle.status.proofs.pages_line.Goals as goal

pub returns : goal.returns
returns c =
    let laid = pages_laid _ _ _ _ _ _ _ _ _ _ _ _ _ _ _ _ c.named-a.ensures c.named-b.ensures c.named-d.ensures c.named-e.ensures c.first-f.ensures c.put.ensures in
    let said = numbered _ _ _ _ _ c.below-n.ensures c.from.ensures c.lowest-lowest.ensures in
    written_as _ _ _ _ _ (sym (laid ∙ said)) c.give.ensures
