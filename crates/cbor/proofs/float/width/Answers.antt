-- `cbor::float::width` meets its contract, case by case. Assumes nothing.
use mathlib.Core.Path.{◌≡◌}
use Rattle.wire.proofs.Branch.{branch}
use Rattle.cbor.specs.Form.{first_of}
use Rattle.cbor.specs.Item.{width_by}
use Rattle.cbor.proofs.float.width.Goals as goal

pub returns-in-249 : goal.returns-in-249
unfolding width_by first_of
returns-in-249 c = search branch depth 12

pub returns-in-250 : goal.returns-in-250
unfolding width_by first_of
returns-in-250 c = let h : c.args.x ≡ 250 = search branch in rw h

pub returns-in_default : goal.returns-in_default
unfolding width_by first_of
returns-in_default c = search branch depth 12
