-- `cbor::float::widen_bits` meets its contract. Assumes nothing.
use Rattle.cbor.proofs.Computed.{sign_divides, magnitude_ready, widened_fits, widened_told}
use Rattle.cbor.proofs.float.widen_bits.Goals as goal

pub nonzero_div-result : goal.nonzero_div-result
nonzero_div-result c = search sign_divides

pub nonzero_rem-bits : goal.nonzero_rem-bits
nonzero_rem-bits c = search sign_divides

pub widen-requires : goal.widen-requires
widen-requires c = search magnitude_ready

pub overflow_add-result : goal.overflow_add-result
overflow_add-result c = search widened_fits

pub returns : goal.returns
returns c = search widened_told
