-- `recover::judge::all_read` meets its contract. The invariant: all are read exactly where those
-- from i on are. Assumes nothing.
use mathlib.Core.Path.{◌≡◌}
use lib.ListN.{drop}
use Rattle.recover.proofs.Judging.{past}
use Rattle.recover.proofs.judge.all_read.Given as goal

abbrev pub invariant-loop-i : goal.invariant-loop-i
invariant-loop-i l = past l.slips ≡ past (drop l.i l.slips)
