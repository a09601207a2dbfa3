-- `field::times` meets its contract. The loop's invariant: r is what the k lowest bits of w come
-- to, and b is x^k times the element. Assumes nothing.
use mathlib.Core.Path.{◌≡◌}
use Rattle.field.specs.Field.{times}
use Rattle.field.specs.Element.{joined, halves}
use Rattle.field.proofs.Polynomials.{power}
use Rattle.field.proofs.times.Given as goal

abbrev pub invariant-loop-k : goal.invariant-loop-k
invariant-loop-k l = (l.r ≡ halves (times l.k l.w (joined l.initial.b))) × (joined l.b ≡ power l.k (joined l.initial.b))
