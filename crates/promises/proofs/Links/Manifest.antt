-- From the contracts of `manifest` in the source to the definitions that the demands cite.
-- Assumes nothing.
use mathlib.Core.Path.{◌≡◌}
use Rattle.wire.specs.Reading.{told}
use Rattle.wire.specs.Writing.{Written}
use Rattle.promises.specs.Calls.{Call}
use Rattle.manifest.specs.Manifest.{manifest_at}
use Rattle.manifest.specs.Answer.{answer_for}
use Rattle.manifest.specs.Writing.{manifest_verdict}
use Rattle.manifest.proofs.read as manifest-read
use Rattle.manifest.proofs.write as manifest-write

pub manifest_read_link : (k : Call manifest-read.Kinds.ps manifest-read.Kinds.r manifest-read.Reads.Learnt) → told k.answer ≡ answer_for (manifest_at k.args.0.now)
manifest_read_link k = k.kept

pub manifest_write_link : (k : Call manifest-write.Kinds.ps manifest-write.Kinds.r manifest-write.Reads.Learnt)
    → Written 0 (manifest_verdict k.args.0.now k.args.1.0) k.args.1.1.0.now k.left.1.1.0 k.answer
manifest_write_link k = k.kept
