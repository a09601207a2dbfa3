-- `entry::write::mtime_fitting` meets its contract: the key and the value are one write.
-- Assumes nothing.
use Rattle.entry.proofs.Writers.{null_run, integer_run}
use Rattle.entry.proofs.write.mtime_fitting.Goals as goal

pub returns-in-None : goal.returns-in-None
returns-in-None c = search null_run

pub returns-in-Some : goal.returns-in-Some
returns-in-Some c = search integer_run
