-- `recover::slip::say_the_same` meets its contract. Assumes nothing.
use Rattle.recover.specs.Recover.{alike, slip_of}
use Rattle.recover.proofs.Payloads.{all_three, one_first, one_second, not_both}
use Rattle.recover.proofs.slip.say_the_same.Goals as goal
use Rattle.recover.proofs.slip.say_the_same.Goals.{then-same_parts, else-same_parts}

pub returns-then-same_numbers : goal.returns-then-same_numbers
unfolding alike slip_of
returns-then-same_numbers c =
    elim c.if-same_parts.branch [
      | then-same_parts w ↦ all_three _ c.same_parts.ensures w.if-same_parts.true w.same_numbers.ensures w.value-is c.if-same_numbers.true c.same_claims.ensures
      | else-same_parts w ↦ not_both _ _ w.value-is w.if-same_parts.false c.if-same_numbers.true
    ]

pub returns-else-same_numbers : goal.returns-else-same_numbers
unfolding alike slip_of
returns-else-same_numbers c =
    elim c.if-same_parts.branch [
      | then-same_parts w ↦ one_second _ _ c.same_parts.ensures w.if-same_parts.true w.same_numbers.ensures w.value-is c.if-same_numbers.false
      | else-same_parts w ↦ one_first _ _ c.same_parts.ensures w.if-same_parts.false c.if-same_numbers.false
    ]
