-- `payload_frame::auth` meets its contract. Assumes nothing.
use Rattle.std.proofs.Common.{rules}
use Rattle.payload_frame.proofs.Judging.{auth_kept}
use Rattle.payload_frame.proofs.auth.Goals as goal

pub returns : goal.returns
returns c = auth_kept _ _ _ _ _ c.carry.ensures (λ s q w. search rules)
