-- `recover::is_slip` meets its contract. Assumes nothing.
use mathlib.Core.Path.{◌∙◌}
use Rattle.recover.proofs.Payloads.{reads_ok}
use Rattle.recover.proofs.is_slip.Goals as goal

pub returns : goal.returns
returns c = c.is_ok.ensures.value ∙ reads_ok _ _ c.read.ensures
