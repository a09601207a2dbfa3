use Rattle.digits.proofs.Hexes.{gone_none, high_fits, byte_fits, gone_on, gone_end}
use Rattle.digits.proofs.read_fitting.Goals as goal

pub loop-i-init : goal.loop-i-init
loop-i-init c = search gone_none

pub overflow_mul-out : goal.overflow_mul-out
overflow_mul-out c = search high_fits

pub overflow_add-out : goal.overflow_add-out
overflow_add-out c = search byte_fits

pub loop-i-preserved : goal.loop-i-preserved
loop-i-preserved c = search gone_on

pub returns : goal.returns
returns c = search gone_end
