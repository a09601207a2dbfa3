-- `manifest::judge::list` meets its contract. The invariant: the rest of the judgement is the whole
-- of it. Assumes nothing.
use Rattle.manifest.proofs.Judging.{Judging}
use Rattle.manifest.proofs.judge.list.Given as goal

abbrev pub invariant-loop-f : goal.invariant-loop-f
invariant-loop-f l = Judging l.pool l.f-items l.f-index l.sum l.last
