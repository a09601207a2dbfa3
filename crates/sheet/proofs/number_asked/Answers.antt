use mathlib.Core.Path.{sym, ◌∙◌}
use native.Mathlib.Omega.{arith}
use Rattle.sheet.proofs.Words.{nothing_said, saying_none, no_digit, saying_on, saying_end}
use Rattle.sheet.proofs.number_asked.Goals as goal

pub returns-then-word-eq0 : goal.returns-then-word-eq0
returns-then-word-eq0 c = nothing_said _ _ c.if-word-eq0.true

pub loop-b-init : goal.loop-b-init
loop-b-init c = saying_none _ _ c.if-word-eq0.false

pub returns-then-not-is_ascii_digit : goal.returns-then-not-is_ascii_digit
returns-then-not-is_ascii_digit c =
    no_digit _ _ _ _ c.loop-b.invariant c.loop-b-test.true (sym c.is_ascii_digit.ensures.value ∙ c.if-not-is_ascii_digit.true)

pub overflow_mul-n : goal.overflow_mul-n
overflow_mul-n c = omega (arith, c.loop-b.invariant.small)

pub overflow_add-n : goal.overflow_add-n
overflow_add-n c = omega (arith, c.loop-b.invariant.small, c.from.ensures)

pub loop-b-preserved : goal.loop-b-preserved
loop-b-preserved c =
    saying_on _ _ _ _ c.loop-b.invariant _ c.loop-b-test.true (sym c.is_ascii_digit.ensures.value ∙ c.if-not-is_ascii_digit.false)
    (omega (arith, c.min-n.ensures, c.from.ensures, c.from-in-loop-b.ensures))

pub overflow_cast-result : goal.overflow_cast-result
overflow_cast-result c = omega (arith, c.loop-b.invariant.small)

pub returns : goal.returns
returns c = saying_end _ _ _ _ c.loop-b.invariant c.loop-b-test.false
