-- `sheet::below::stand` meets its contract. Assumes nothing.
use borrow.Author.Rules.{rules}
use Rattle.sheet.proofs.Groups.{feed_stands, first_stands, next_stands}
use Rattle.sheet.proofs.below.stand.Goals as goal

pub returns-then-c-eq10 : goal.returns-then-c-eq10
returns-then-c-eq10 c = feed_stands _ _ c.if-c-eq10.true

pub returns-then-n-eq-GROUP : goal.returns-then-n-eq-GROUP
returns-then-n-eq-GROUP c = first_stands _ _ c.if-c-eq10.false c.if-n-eq-GROUP.true

pub returns : goal.returns
returns c = next_stands _ _ (search rules) c.if-c-eq10.false c.if-n-eq-GROUP.false
