-- Each turn writes at least one of the bytes that are left.
use Rattle.std.proofs.Common.{length}
use Rattle.edge.proofs.write.Given as goal

abbrev pub decreases-loop-rest : goal.decreases-loop-rest
decreases-loop-rest g l = length l.rest
