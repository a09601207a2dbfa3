-- `field::over` meets its contract. Assumes nothing.
use mathlib.Core.Path.{ap, ◌∙◌}
use Prim.Native.Nat.{ℕ}
use Rattle.field.specs.Field.{product, inverse}
use Rattle.field.specs.Element.{joined, halves}
use Rattle.field.proofs.Elements.{joined_halves}
use Rattle.field.proofs.over.Goals as goal

pub returns : goal.returns
returns c =
    let a = c.args in
    c.product.ensures ∙ ap (λ (x : ℕ). halves (product (joined a.a) x)) (ap joined c.inverse.ensures ∙ joined_halves (inverse a.d))
