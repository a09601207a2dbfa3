-- `cbor::read::float_body` meets its contract. Assumes nothing.
use Rattle.wire.proofs.Answers.{handed}
use Rattle.cbor.proofs.Computed.{body_cut, body_infinite, body_longer, body_shortest}
use Rattle.cbor.proofs.read.float_body.Goals as goal

pub returns-in_err-bits : goal.returns-in_err-bits
returns-in_err-bits c = handed _ _ c.from_residual.ensures _ (body_cut _ _ _ _ c.bytes.ensures.0 _ c.in_err-bits.ensures)

pub returns-then-not-is_finite : goal.returns-then-not-is_finite
returns-then-not-is_finite c = search (body_infinite, c.in_ok-bits.ensures)

pub returns-then-ne : goal.returns-then-ne
returns-then-ne c = search (body_longer, c.in_ok-bits.ensures)

pub returns : goal.returns
returns c = search (body_shortest, c.in_ok-bits.ensures)
