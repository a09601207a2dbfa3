-- `manifest::files::run` meets its contract. The invariant: the files that are done stand in the
-- array, and the rest of the work is the whole of it. Assumes nothing.
use Rattle.manifest.proofs.Lists.{Reading}
use Rattle.manifest.proofs.files.run.Given as goal

abbrev pub invariant-loop-i : goal.invariant-loop-i
invariant-loop-i l = Reading l.s l.at l.count l.all l.i l.p l.last
