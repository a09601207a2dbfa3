-- `typed::lay::lines` meets its contract. Assumes nothing.
use mathlib.Core.Path.{sym, ◌∙◌}
use borrow.Author.Tests.{eqb-true, eqb-false}
use Rattle.typed.proofs.Laying.{none_lined, all_lined}
use Rattle.typed.proofs.lay.lines.Goals as goal

pub returns-then-is_empty : goal.returns-then-is_empty
returns-then-is_empty c = none_lined _ _ (eqb-true _ _ (sym c.is_empty.ensures ∙ c.if-is_empty.true))

pub returns : goal.returns
returns c = all_lined _ _ c.requires.1 (eqb-false _ _ (sym c.is_empty.ensures ∙ c.if-is_empty.false)) _ c.row_end-first.ensures _ _ _ _ c.line-start.ensures c.further.ensures
