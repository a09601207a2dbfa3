-- `cbor::float::widen` meets its contract. Assumes nothing.
use Rattle.cbor.proofs.Computed.{step_divides, product_fits, product_most, scaled_fits, widen_short, widen_low, widen_done}
use Rattle.cbor.proofs.float.widen.Goals as goal

pub nonzero_div-m : goal.nonzero_div-m
nonzero_div-m c = search step_divides

pub overflow_mul-x : goal.overflow_mul-x
overflow_mul-x c = search product_fits

pub overflow_sub-m : goal.overflow_sub-m
overflow_sub-m c = search product_most

pub overflow_add-x : goal.overflow_add-x
overflow_add-x c = search scaled_fits

pub pack-requires : goal.pack-requires
pack-requires c = (search widen_short, search widen_low)

pub returns : goal.returns
returns c = search widen_done
