-- `auth::signed_fitting` meets its contract: a run of writes is one write. Assumes nothing.
use Rattle.auth.proofs.Writers.{signed_run}
use Rattle.auth.proofs.signed_fitting.Goals as goal

pub returns : goal.returns
returns c = search signed_run
