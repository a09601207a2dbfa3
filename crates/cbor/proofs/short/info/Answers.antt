-- `cbor::short::info` meets its contract, case by case. Assumes nothing.
use native.Mathlib.Omega.{arith}
use Rattle.wire.proofs.Branch.{branch}
use Rattle.cbor.specs.Form.{info_of}
use Rattle.cbor.proofs.short.info.Goals as goal

pub returns-in-0-to-23 : goal.returns-in-0-to-23
unfolding info_of
returns-in-0-to-23 c = (search branch depth 12, omega arith)

pub returns-in-24-to-255 : goal.returns-in-24-to-255
unfolding info_of
returns-in-24-to-255 c = (search branch depth 12, omega arith)

pub returns-in-256-to-65535 : goal.returns-in-256-to-65535
unfolding info_of
returns-in-256-to-65535 c = (search branch depth 12, omega arith)

pub returns-in-65536-to-4294967295 : goal.returns-in-65536-to-4294967295
unfolding info_of
returns-in-65536-to-4294967295 c = (search branch depth 12, omega arith)

pub returns-in_default : goal.returns-in_default
unfolding info_of
returns-in_default c = (search branch depth 12, omega arith)
