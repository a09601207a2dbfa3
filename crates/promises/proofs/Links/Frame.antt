-- From the contracts of `frame` in the source to the definitions that the demands cite.
-- Assumes nothing.
use mathlib.Core.Path.{◌≡◌}
use Rattle.wire.specs.Answer.{done}
use Rattle.wire.specs.Writing.{Written}
use Rattle.promises.specs.Calls.{Call}
use Rattle.frame.specs.Frame as F
use Rattle.frame.specs.Layout.{layout}
use Rattle.frame.specs.Answer as frame
use Rattle.frame.proofs.read as frame-read
use Rattle.frame.proofs.lay as frame-lay

pub frame_read_link : (k : Call frame-read.Kinds.ps frame-read.Kinds.r frame-read.Reads.Learnt) → frame.told k.answer ≡ F.frame_of k.args.0.now
frame_read_link k = k.kept

pub frame_lay_link : (k : Call frame-lay.Kinds.ps frame-lay.Kinds.r frame-lay.Reads.Learnt)
    → Written 0 (done (layout k.args.0 k.args.1.0.now k.args.1.1.0 k.args.1.1.1.0 k.args.1.1.1.1.0.now))
    k.args.1.1.1.1.1.0.now k.left.1.1.1.1.1.0 k.answer
frame_lay_link k = k.kept
