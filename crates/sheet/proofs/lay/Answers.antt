use borrow.Author.Rules.{rules}
use Rattle.sheet.proofs.Sheets.{stacked_none, stacked_room, stacked_on, stacked_end}
use Rattle.sheet.proofs.lay.Goals as goal

pub loop-k-init : goal.loop-k-init
loop-k-init g c = stacked_none _ _ _ _ _ c.requires.0 (search rules)

pub lines-at-requires : goal.lines-at-requires
lines-at-requires g c = (c.requires.0, c.loop-k-test.true, stacked_room _ _ _ _ _ _ _ _ c.loop-k.invariant c.loop-k-test.true)

pub loop-k-preserved : goal.loop-k-preserved
loop-k-preserved g c = stacked_on _ _ _ _ _ _ _ _ c.loop-k.invariant _ _ c.loop-k-test.true (search rules) c.lines-at.ensures

pub returns : goal.returns
returns g c = stacked_end _ _ _ _ _ _ _ _ c.loop-k.invariant _ c.requires.1 c.id_line.ensures c.loop-k-test.false
