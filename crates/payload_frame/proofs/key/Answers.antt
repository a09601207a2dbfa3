-- `payload_frame::key` meets its contract. Assumes nothing.
use Rattle.std.proofs.Common.{rules}
use Rattle.payload_frame.proofs.Judging.{key_kept}
use Rattle.payload_frame.proofs.key.Goals as goal

pub returns : goal.returns
returns c = key_kept _ _ _ _ _ c.carry.ensures (λ s q w. search rules)
