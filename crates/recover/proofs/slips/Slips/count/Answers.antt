-- `recover::slips::Slips::count` meets its contract. Assumes nothing.
use mathlib.Core.Path.{sym, ap, ◌∙◌}
use lib.ListN.{length}
use Rattle.recover.proofs.Payloads.{slips_long}
use Rattle.recover.proofs.slips.Slips.count.Goals as goal

pub returns : goal.returns
returns c = c.min.ensures ∙ sym (slips_long _ _ _) ∙ ap length c.self.view_is
