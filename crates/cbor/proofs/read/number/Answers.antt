-- `cbor::read::number` meets its contract: each return is where its tests and its call led.
-- Assumes nothing.
use Rattle.cbor.specs.Item.{number_at}
use Rattle.wire.proofs.Answers.{reads, off}
use Rattle.cbor.proofs.Answers.{handed_fault}
use Rattle.cbor.proofs.read.number.Goals as goal

pub returns-in_err-h : goal.returns-in_err-h
unfolding number_at
returns-in_err-h g c = handed_fault _ _ g.met.E.Fault.laws.0 _ _ c.from_residual.ensures _ (off _ _ _ _ c.in_err-h.ensures)

pub returns-then-h-kind : goal.returns-then-h-kind
unfolding number_at
returns-then-h-kind g c = search (reads, c.in_ok-h.ensures) depth 24

pub returns-then-h-least : goal.returns-then-h-least
unfolding number_at
returns-then-h-least g c = search (reads, c.in_ok-h.ensures) depth 24

pub returns-then-most-h : goal.returns-then-most-h
unfolding number_at
returns-then-most-h g c = search (reads, c.in_ok-h.ensures) depth 24

pub returns : goal.returns
unfolding number_at
returns g c = search (reads, c.in_ok-h.ensures) depth 24
