-- `manifest::form::seed_field` meets its contract: the key and the value are one write.
-- Assumes nothing.
use Rattle.manifest.proofs.Laying.{null_run, bytes_run}
use Rattle.manifest.proofs.form.seed_field.Goals as goal

pub returns-in-None : goal.returns-in-None
returns-in-None c = search null_run

pub returns-in-Some : goal.returns-in-Some
returns-in-Some c = search bytes_run
