-- `sheet::below::groups` meets its contract. The loop's invariant: the characters passed stand in
-- groups, and there is room for what is left. Assumes nothing.
use Rattle.sheet.proofs.Groups.{Grouping}
use Rattle.sheet.proofs.below.groups.Given as goal

abbrev pub invariant-loop-c : goal.invariant-loop-c
invariant-loop-c l = Grouping l.text l.initial.out l.at l.to l.n l.c-index l.out
