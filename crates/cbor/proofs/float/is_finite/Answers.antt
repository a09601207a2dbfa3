-- `cbor::float::is_finite` meets its contract. Assumes nothing.
use Rattle.cbor.proofs.Computed.{sign_divides, finite_told}
use Rattle.cbor.proofs.float.is_finite.Goals as goal

pub nonzero_rem-result : goal.nonzero_rem-result
nonzero_rem-result c = search sign_divides

pub returns : goal.returns
returns c = search finite_told
