-- `auth::write_fitting` meets its contract: a run of writes is one write. Assumes nothing.
use Rattle.auth.proofs.Writers.{auth_run}
use Rattle.auth.proofs.write_fitting.Goals as goal

pub returns : goal.returns
returns c = search auth_run
