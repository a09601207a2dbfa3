-- `cbor::float::pack` meets its contract. Assumes nothing.
use borrow.Author.Rules.{rules}
use native.Mathlib.Omega.{arith}
use Rattle.cbor.specs.Float.{fraction_bits}
use Rattle.cbor.proofs.Computed.{zeros_fit, zeros_least, zeros_most, pack_none, pack_low, pack_raised, pack_fits}
use Rattle.cbor.proofs.float.pack.Goals as goal

pub returns-then-s-eq0 : goal.returns-then-s-eq0
unfolding fraction_bits
returns-then-s-eq0 c = pack_none _ _ (search rules)

pub overflow_cast-low : goal.overflow_cast-low
overflow_cast-low c = zeros_fit _ c.args.x (search rules) (search rules)

pub overflow_sub-low : goal.overflow_sub-low
overflow_sub-low c = zeros_least _ c.args.x (search rules) (search rules)

pub overflow_shl-result : goal.overflow_shl-result
overflow_shl-result c = omega (arith, zeros_most c.args.s c.args.x (search rules) (search rules))

pub returns-then-x-low : goal.returns-then-x-low
unfolding fraction_bits
returns-then-x-low c = pack_low _ _ (search rules) (search rules) (search rules)

pub overflow_shl-result-2 : goal.overflow_shl-result-2
overflow_shl-result-2 c = zeros_most _ c.args.x (search rules) (search rules)

pub overflow_add-result : goal.overflow_add-result
overflow_add-result c = pack_fits _ _ (search rules) (search rules) (search rules)

pub returns : goal.returns
unfolding fraction_bits
returns c = pack_raised _ _ (search rules) (search rules) (search rules) (search rules)
