-- `mark::read` meets its contract: the first two bytes are compared once they are there.
-- Assumes nothing.
use mathlib.Core.Path.{sym}
use native.Mathlib.Omega.{arith}
use lib.ListN.{length}
use lib.Seq.{length-take-le}
use Rattle.mark.specs.Mark.{mark_of}
use Rattle.wire.proofs.Answers.{reads}
use Rattle.wire.proofs.Branch.{tests}
use Rattle.mark.proofs.read.Goals as goal

pub returns-then-s-n : goal.returns-then-s-n
unfolding mark_of
returns-then-s-n c = search (reads, tests)

pub slice_bounds-equal-end : goal.slice_bounds-equal-end
slice_bounds-equal-end c = let a = c.args in sym (length-take-le (length a.magic.now) a.s.now (omega arith))

pub returns-then-not-equal : goal.returns-then-not-equal
unfolding mark_of
returns-then-not-equal c = search (reads, tests)

pub returns : goal.returns
unfolding mark_of
returns c = search (reads, tests)
