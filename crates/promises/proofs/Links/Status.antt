-- From the contracts of `status` in the source to the definitions that the demands cite.
-- Assumes nothing.
use Rattle.wire.specs.Answer.{done}
use Rattle.wire.specs.Writing.{Written}
use Rattle.status.specs.Line.{status_line}
use Rattle.status.proofs.status as status-status
use Rattle.promises.specs.Calls.{Call}

pub status_status_link : (k : Call status-status.Kinds.ps status-status.Kinds.r status-status.Reads.Learnt)
    → Written 0 (done (status_line k.args.0.now)) k.args.1.0.now k.left.1.0 k.answer
status_status_link k = k.kept
