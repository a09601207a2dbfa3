use Rattle.varint.proofs.Turns.{turn_none, turn, tenth_fits, seven_fits, low_fits, low_product_fits, weight_fits, tenth_ends, last_ends, input_ends}
use Rattle.varint.proofs.read_later.Goals as goal

pub loop-i-init : goal.loop-i-init
loop-i-init c = search turn_none

pub read_tenth-requires : goal.read_tenth-requires
read_tenth-requires c = search tenth_fits

pub returns-then-left-eq0 : goal.returns-then-left-eq0
returns-then-left-eq0 c = search tenth_ends

pub read_ending-requires : goal.read_ending-requires
read_ending-requires c = search seven_fits

pub returns-then-b-lt128 : goal.returns-then-b-lt128
returns-then-b-lt128 c = search last_ends

pub overflow_mul-n : goal.overflow_mul-n
overflow_mul-n c = search low_product_fits

pub overflow_add-n : goal.overflow_add-n
overflow_add-n c = search low_fits

pub overflow_mul-w : goal.overflow_mul-w
overflow_mul-w c = search weight_fits

pub loop-i-preserved : goal.loop-i-preserved
loop-i-preserved c = search turn

pub returns : goal.returns
returns c = search input_ends
