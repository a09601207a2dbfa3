-- `manifest::form::opening` meets its contract: a run of writes is one write. Assumes nothing.
use Rattle.manifest.proofs.Laying.{seed_room, opening_run}
use Rattle.manifest.proofs.form.opening.Goals as goal

pub seed_field-b-requires : goal.seed_field-b-requires
seed_field-b-requires c = search seed_room

pub returns : goal.returns
returns c = search opening_run
