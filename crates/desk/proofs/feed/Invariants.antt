-- Ending: each line that is answered leaves less of the input.
use Rattle.std.proofs.Common.{length}
use Rattle.desk.proofs.feed.Given as goal

abbrev pub decreases-loop-n : goal.decreases-loop-n
decreases-loop-n l = length l.rest
