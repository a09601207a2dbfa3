-- `cbor::float::narrow_bits` meets its contract. Assumes nothing.
use Rattle.cbor.proofs.Computed.{carried_fits, narrowed_fits, narrowed_told}
use Rattle.cbor.proofs.float.narrow_bits.Goals as goal

pub overflow_mul-result : goal.overflow_mul-result
overflow_mul-result c = search carried_fits

pub overflow_add-result : goal.overflow_add-result
overflow_add-result c = search narrowed_fits

pub returns : goal.returns
returns c = search narrowed_told
