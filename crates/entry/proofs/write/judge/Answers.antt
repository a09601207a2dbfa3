-- `entry::write::judge` meets its contract: each judgement in the order of the keys.
-- Assumes nothing.
use Rattle.entry.proofs.Writers.{judged_path, judge_done}
use Rattle.entry.proofs.write.judge.Goals as goal

pub size-requires : goal.size-requires
size-requires c = search judged_path

pub returns : goal.returns
returns c = search judge_done
