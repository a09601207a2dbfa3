-- `notes::line::strange` meets its contract. The loop's invariant: the answer is that of what is
-- left. Assumes nothing.
use mathlib.Core.Path.{◌≡◌}
use lib.ListN.{drop}
use Rattle.notes.specs.Line.{strange}
use Rattle.notes.proofs.line.strange.Given as goal

abbrev pub invariant-loop-b : goal.invariant-loop-b
invariant-loop-b l = strange l.line ≡ strange (drop l.b-index l.line)
