-- `manifest::read` meets its contract: the size, the head, the seed, the files, the rest.
-- Assumes nothing.
use Rattle.manifest.proofs.Answers.{read_whole}
use Rattle.manifest.proofs.read.Goals as goal

pub returns : goal.returns
returns c = read_whole _ _ _ _ _ _ _ _ c.if-s-gt-MOST_MANIFEST.false c.in_ok-a.ensures c.in_ok-seed.ensures c.in_ok-files.ensures c.in_ok-end.ensures
