-- `digits::spell` meets its contract. The loop's invariant: the digits that are left, and behind
-- them those that stand. Assumes nothing.
use Rattle.digits.proofs.Numerals.{Spelling}
use Rattle.digits.proofs.spell.Given as goal

abbrev pub invariant-loop-i : goal.invariant-loop-i
invariant-loop-i l = Spelling l.n l.room l.rest l.i
