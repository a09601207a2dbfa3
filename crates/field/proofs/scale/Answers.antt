-- `field::scale` meets its contract: the bits of a point above the eighth are 0. Assumes nothing.
use mathlib.Core.Path.{sym, ap, ◌∙◌}
use native.Mathlib.Omega.{arith}
use Rattle.field.specs.Element.{joined, halves}
use Rattle.field.proofs.Products.{product_small}
use Rattle.field.proofs.scale.Goals as goal

pub returns : goal.returns
returns c =
    let a = c.args in
    rw c.from.ensures at c.times.ensures.sum ∙ sym (ap halves (product_small (joined a.a) a.x (omega arith)))
