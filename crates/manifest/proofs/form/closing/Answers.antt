-- `manifest::form::closing` meets its contract: a run of writes is one write. Assumes nothing.
use Rattle.manifest.proofs.Laying.{created_room, closing_run}
use Rattle.manifest.proofs.form.closing.Goals as goal

pub created_field-c-requires : goal.created_field-c-requires
created_field-c-requires c = search created_room

pub returns : goal.returns
returns c = search closing_run
