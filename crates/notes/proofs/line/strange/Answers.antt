use mathlib.Core.Path.{refl, sym, ◌∙◌}
use native.Mathlib.Omega.{arith}
use Rattle.notes.proofs.Firsts.{strange_on, strange_stop, strange_end}
use Rattle.notes.proofs.line.strange.Goals as goal

pub loop-b-init : goal.loop-b-init
loop-b-init c = refl

pub returns-then-hex_value-gt15 : goal.returns-then-hex_value-gt15
returns-then-hex_value-gt15 c =
    let l = c.loop-b in
    sym (l.invariant ∙ strange_stop _ l.b-index (omega arith) (omega (arith, c.hex_value.ensures.0)))

pub loop-b-preserved : goal.loop-b-preserved
loop-b-preserved c =
    let l = c.loop-b in
    l.invariant ∙ strange_on _ l.b-index (omega arith) (omega (arith, c.hex_value.ensures.0))

pub returns : goal.returns
returns c = let l = c.loop-b in sym (l.invariant ∙ strange_end _ l.b-index (omega arith))
