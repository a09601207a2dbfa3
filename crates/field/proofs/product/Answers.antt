-- `field::product` meets its contract. Assumes nothing.
use mir.Syntax.{w64}
use mir.Val.{Fits}
use lib.ListN.{get_or}
use borrow.Author.Rules.{rules}
use Rattle.field.specs.Element.{joined}
use Rattle.field.proofs.Turns.{product_turns}
use Rattle.field.proofs.product.Goals as goal

pub returns : goal.returns
returns c =
    let a = c.args in
    let l : Fits w64 (get_or a.b 1 0) = search rules in
    product_turns (joined a.a) (get_or a.b 0 0) (get_or a.b 1 0) c.times-low.result.sum c.times-low.result.next c.times-high.result.sum
    _ l.fits c.times-low.ensures.sum c.times-low.ensures.next c.times-high.ensures.sum c.sum.ensures
