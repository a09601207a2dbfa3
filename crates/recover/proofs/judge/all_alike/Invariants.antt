-- `recover::judge::all_alike` meets its contract. The invariant: all are as the first exactly where
-- those from i on are. Assumes nothing.
use mathlib.Core.Path.{◌≡◌}
use Rattle.recover.proofs.Judging.{like_from}
use Rattle.recover.proofs.judge.all_alike.Given as goal

abbrev pub invariant-loop-i : goal.invariant-loop-i
invariant-loop-i l = like_from 1 l.slips ≡ like_from l.i l.slips
