-- `cbor::read::float` meets its contract. Assumes nothing.
use Rattle.wire.proofs.Answers.{handed}
use Rattle.cbor.proofs.Computed.{float_cut, float_other, float_goes_on}
use Rattle.cbor.proofs.read.float.Goals as goal

pub returns-in_err-x : goal.returns-in_err-x
returns-in_err-x c = handed _ _ c.from_residual.ensures _ (float_cut _ _ _ c.in_err-x.ensures)

pub returns-then-not-begins : goal.returns-then-not-begins
returns-then-not-begins c = search (float_other, c.in_ok-x.ensures)

pub returns : goal.returns
returns c = search (float_goes_on, c.in_ok-x.ensures)
