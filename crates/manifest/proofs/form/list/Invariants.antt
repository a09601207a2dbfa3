-- `manifest::form::list` meets its contract. The invariant: the files that are left are judged, and
-- still to be written. Assumes nothing.
use Rattle.manifest.proofs.Laying.{Laying}
use Rattle.manifest.proofs.form.list.Given as goal

abbrev pub invariant-loop-f : goal.invariant-loop-f
invariant-loop-f l = Laying l.pool l.f-items l.at l.initial.out l.out l.f-index l.p l.last
