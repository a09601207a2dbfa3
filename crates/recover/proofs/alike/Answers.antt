-- `recover::alike` meets its contract. Assumes nothing.
use Rattle.recover.proofs.Payloads.{not_both}
use mathlib.Core.Path.{sym, ◌∙◌}
use Rattle.recover.proofs.Verdicts.{first_unread, second_unread, both_said}
use Rattle.recover.proofs.alike.Goals as goal
use Rattle.recover.proofs.alike.Goals.{then-is_slip, else-is_slip}

pub returns-then-is_slip-2 : goal.returns-then-is_slip-2
returns-then-is_slip-2 c =
    elim c.if-is_slip.branch [
      | then-is_slip w ↦ both_said _ _ _ c.is_slip.ensures w.if-is_slip.true _ w.is_slip-then-is_slip.ensures (sym w.value-is ∙ c.if-is_slip-2.true) _ c.agree.ensures
      | else-is_slip w ↦ not_both _ _ w.value-is w.if-is_slip.false c.if-is_slip-2.true
    ]

pub returns-else-is_slip-2 : goal.returns-else-is_slip-2
returns-else-is_slip-2 c =
    elim c.if-is_slip.branch [
      | then-is_slip w ↦ c.if-is_slip-2.false ∙ second_unread _ _ _ w.is_slip-then-is_slip.ensures (sym w.value-is ∙ c.if-is_slip-2.false)
      | else-is_slip w ↦ c.if-is_slip-2.false ∙ first_unread _ _ _ c.is_slip.ensures w.if-is_slip.false
    ]
