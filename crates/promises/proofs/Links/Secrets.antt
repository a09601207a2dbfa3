-- From the contracts of `split` and `recover` in the source to the definitions that R19.10 to
-- R19.12 cite. Assumes nothing.
use Rattle.wire.specs.Writing.{Written}
use Rattle.split.specs.Split.{split_verdict}
use Rattle.split.proofs.split as split-split
use Rattle.recover.specs.Recover.{slips_at, recovered}
use Rattle.recover.proofs.recover as recover-recover
use Rattle.promises.specs.Calls.{Call}

pub split_split_link : (k : Call split-split.Kinds.ps split-split.Kinds.r split-split.Reads.Learnt)
    → Written 0 (split_verdict k.args.0.now k.args.1.0 k.args.1.1.0 k.args.1.1.1.0.now) k.args.1.1.1.1.0.now k.left.1.1.1.1.0 k.answer
split_split_link k = k.kept

pub recover_recover_link : (k : Call recover-recover.Kinds.ps recover-recover.Kinds.r recover-recover.Reads.Learnt)
    → Written 0 (recovered (slips_at k.args.0.now k.args.1.0.now k.args.1.1.0.now)) k.args.1.1.1.0.now k.left.1.1.1.0 k.answer
recover_recover_link k = k.kept
