-- `frame::in_place` meets its contract: each test picks its case. Assumes nothing.
use mathlib.Core.Path.{sym, ◌∙◌}
use mathlib.Core.Bool.{false≢true}
use Rattle.frame.proofs.Allowed.{main_placed, other_placed, never_placed}
use Rattle.frame.proofs.in_place.Goals.{in-Main, in_default}
use Rattle.frame.proofs.in_place.Goals as goal

pub returns-then-matches : goal.returns-then-matches
returns-then-matches c =
    elim c.match-matches.branch [
      | in-Main w ↦ main_placed _ _ _ _ c.if-index-total.true w.in-Main.is w.matches-is
      | in_default w ↦ absurd (false≢true (sym w.matches-is ∙ c.if-matches.true))
    ]

pub returns-else-matches : goal.returns-else-matches
returns-else-matches c =
    elim c.match-matches.branch [
      | in-Main w ↦ absurd (false≢true (sym c.if-matches.false ∙ w.matches-is))
      | in_default w ↦ other_placed _ _ _ c.if-index-total.true w.in_default.not-Main
    ]

pub returns-else-index-total : goal.returns-else-index-total
returns-else-index-total c = never_placed _ _ _ c.if-index-total.false
