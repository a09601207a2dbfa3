use Rattle.cbor.proofs.Counting.{count_none, count_more, product_fits, sum_fits, count_all}
use Rattle.cbor.proofs.read.big_endian.Goals as goal

pub loop-x-init : goal.loop-x-init
loop-x-init c = search count_none

pub overflow_mul-n : goal.overflow_mul-n
overflow_mul-n c = search product_fits

pub overflow_add-n : goal.overflow_add-n
overflow_add-n c = search (sum_fits, c.type_inv.bs)

pub loop-x-preserved : goal.loop-x-preserved
loop-x-preserved c = search (count_more, c.type_inv.bs)

pub returns : goal.returns
returns c = search count_all
