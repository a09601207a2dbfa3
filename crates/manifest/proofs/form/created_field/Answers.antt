-- `manifest::form::created_field` meets its contract. Assumes nothing.
use Rattle.manifest.proofs.Laying.{integer_run, double_run}
use Rattle.manifest.proofs.form.created_field.Goals as goal

pub returns-in-Integer : goal.returns-in-Integer
returns-in-Integer c = search integer_run

pub returns-in-Double : goal.returns-in-Double
returns-in-Double c = search double_run
