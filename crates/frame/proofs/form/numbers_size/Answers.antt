-- `frame::form::numbers_size` meets its contract: no varint has more than ten bytes.
-- Assumes nothing.
use native.Mathlib.Omega.{arith}
use Rattle.varint.proofs.Lengths.{varint_length}
use Rattle.frame.proofs.Lengths.{numbers_length}
use Rattle.frame.proofs.form.numbers_size.Goals as goal

pub overflow_add-result : goal.overflow_add-result
overflow_add-result c = let a = c.args in omega (arith, varint_length a.index, varint_length a.total)

pub overflow_add-result-2 : goal.overflow_add-result-2
overflow_add-result-2 c = let a = c.args in omega (arith, varint_length a.index, varint_length a.total, varint_length a.len)

pub returns : goal.returns
returns c = let a = c.args in omega (arith, numbers_length a.index a.total a.len)
