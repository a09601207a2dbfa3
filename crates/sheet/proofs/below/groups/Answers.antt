use borrow.Author.Rules.{rules}
use Rattle.sheet.proofs.Groups.{grouping_none, grouping_room, grouping_on, grouping_fits, grouping_end}
use Rattle.sheet.proofs.below.groups.Goals as goal

pub loop-c-init : goal.loop-c-init
loop-c-init c = grouping_none _ _ _ c.requires

pub show-to-requires : goal.show-to-requires
show-to-requires c = grouping_room _ _ _ _ _ _ _ c.loop-c.invariant c.loop-c-test.true

pub stand-n-requires : goal.stand-n-requires
stand-n-requires c = c.loop-c.invariant.group

pub loop-c-preserved : goal.loop-c-preserved
loop-c-preserved c = grouping_on _ _ _ _ _ _ _ c.loop-c.invariant _ _ _ c.loop-c-test.true (search rules) c.show-to.ensures c.stand-n.ensures

pub overflow_add-result : goal.overflow_add-result
overflow_add-result c =
    let fits = grouping_fits _ _ _ _ _ _ _ c.loop-c.invariant c.loop-c-test.false in
    search rules

pub returns : goal.returns
returns c = grouping_end _ _ _ _ _ _ _ c.loop-c.invariant _ c.loop-c-test.false c.put.ensures
