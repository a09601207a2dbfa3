-- `varint::size` meets its contract: the leading zeros give the length that sevens have.
-- Assumes nothing.
use mathlib.Core.Path.{sym}
use native.Mathlib.Omega.{arith}
use Rattle.varint.proofs.Lengths.{varint_length_one, leading_zeros_below, varint_length_from_leading_zeros}
use Rattle.varint.proofs.size.Goals as goal

pub returns-then-n-eq0 : goal.returns-then-n-eq0
returns-then-n-eq0 c = sym (varint_length_one _ (omega arith))

pub overflow_sub-highest : goal.overflow_sub-highest
overflow_sub-highest c = omega (arith, leading_zeros_below c.args.n (omega arith) (omega arith))

pub returns : goal.returns
returns c = omega (arith, varint_length_from_leading_zeros c.args.n (omega arith) (omega arith))
