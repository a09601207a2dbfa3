-- `cbor::read::head` meets its contract: each return is where its tests and its calls led.
-- Assumes nothing.
use Rattle.cbor.specs.Item.{head_at}
use Rattle.wire.proofs.Answers.{reads, handed}
use Rattle.cbor.proofs.Answers.{answered, differed}
use Rattle.cbor.proofs.read.head.Goals as goal

pub returns-then-s-at : goal.returns-then-s-at
unfolding head_at
returns-then-s-at c = search reads depth 24

pub returns-then-kind_of-kind : goal.returns-then-kind_of-kind
unfolding head_at
returns-then-kind_of-kind c = search (reads, answered, differed) depth 24

pub returns-then-low-gt27 : goal.returns-then-low-gt27
unfolding head_at
returns-then-low-gt27 c = search (reads, answered, differed) depth 24

pub returns-in_err-n : goal.returns-in_err-n
unfolding head_at
returns-in_err-n c = search (reads, answered, differed, handed _ _ c.from_residual.ensures, c.in_err-n.ensures) depth 24

pub returns-then-info-low : goal.returns-then-info-low
unfolding head_at
returns-then-info-low c = search (reads, answered, differed, c.in_ok-n.ensures) depth 24

pub returns : goal.returns
unfolding head_at
returns c = search (reads, answered, differed, c.in_ok-n.ensures) depth 24
