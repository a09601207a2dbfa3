-- `cbor::float::least` meets its contract. Assumes nothing.
use Rattle.wire.proofs.Branch.{branch, tests}
use Rattle.cbor.specs.Float.{exponent_bits, fraction_bits, sign_of, shortest, magnitude}
use Rattle.cbor.proofs.float.least.Goals as goal

pub returns-then-has : goal.returns-then-has
unfolding shortest magnitude sign_of exponent_bits fraction_bits
returns-then-has c = search (branch, tests) depth 12

pub returns-then-has-2 : goal.returns-then-has-2
unfolding shortest magnitude sign_of exponent_bits fraction_bits
returns-then-has-2 c = search (branch, tests) depth 12

pub returns : goal.returns
unfolding shortest magnitude sign_of exponent_bits fraction_bits
returns c = search (branch, tests) depth 12
