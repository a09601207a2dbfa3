-- From the contracts of `finish` and `mend` in the source to the definitions that the demands cite.
-- Assumes nothing.
use Rattle.wire.specs.Answer.{Kept}
use Rattle.finish.specs.Finish as finishing
use Rattle.finish.proofs.finish as finish-finish
use Rattle.mend.specs.Mend as mending
use Rattle.mend.proofs.mend as mend-mend
use Rattle.promises.specs.Calls.{Call}

pub finish_finish_link : (k : Call finish-finish.Kinds.ps finish-finish.Kinds.r finish-finish.Reads.Learnt)
    → finishing.Closed (finishing.finished k.args.0.now k.args.1.0.now) k.args.1.0.now k.left.1.0 k.answer
finish_finish_link k = k.kept

pub mend_mend_link : (k : Call mend-mend.Kinds.ps mend-mend.Kinds.r mend-mend.Reads.Learnt)
    → Kept (mending.mending k.args.0.now) k.args.0.now k.left.0 (mending.told k.answer)
mend_mend_link k = k.kept
