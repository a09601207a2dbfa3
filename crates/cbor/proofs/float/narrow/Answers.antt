-- `cbor::float::narrow` meets its contract. Assumes nothing.
use Rattle.cbor.proofs.Computed.{scale_fits, narrow_ready, narrow_none, narrow_exponents_fit, narrow_fits, narrow_done}
use Rattle.cbor.proofs.float.narrow.Goals as goal

pub overflow_add-a : goal.overflow_add-a
overflow_add-a c = search scale_fits

pub overflow_sub-drop : goal.overflow_sub-drop
overflow_sub-drop c = search narrow_ready

pub returns-then-drop-gt63 : goal.returns-then-drop-gt63
returns-then-drop-gt63 c = search narrow_none depth 12

pub overflow_mul-result : goal.overflow_mul-result
overflow_mul-result c = search narrow_exponents_fit

pub overflow_add-result : goal.overflow_add-result
overflow_add-result c = search narrow_fits

pub returns : goal.returns
returns c = search narrow_done
