-- `cbor::short::width` meets its contract, case by case. Assumes nothing.
use mathlib.Core.Path.{◌≡◌}
use native.Mathlib.Omega.{arith}
use Rattle.wire.proofs.Branch.{branch}
use Rattle.cbor.specs.Form.{width_of}
use Rattle.cbor.proofs.short.width.Goals as goal

pub returns-in-0-to-23 : goal.returns-in-0-to-23
unfolding width_of
returns-in-0-to-23 c = (search branch depth 12, omega arith)

pub returns-in-24 : goal.returns-in-24
unfolding width_of
returns-in-24 c =
    let h : c.args.info ≡ 24 = search branch in
    (rw h, omega arith)

pub returns-in-25 : goal.returns-in-25
unfolding width_of
returns-in-25 c =
    let h : c.args.info ≡ 25 = search branch in
    (rw h, omega arith)

pub returns-in-26 : goal.returns-in-26
unfolding width_of
returns-in-26 c =
    let h : c.args.info ≡ 26 = search branch in
    (rw h, omega arith)

pub returns-in_default : goal.returns-in_default
unfolding width_of
returns-in_default c = (search branch depth 12, omega arith)
