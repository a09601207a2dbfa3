-- `cbor::write::string_size` meets its contract, as its call says. Assumes nothing.
use native.Mathlib.Omega.{arith}
use lib.ListN.{length}
use Rattle.cbor.proofs.Sizes.{size_most}
use Rattle.cbor.proofs.write.string_size.Goals as goal

pub overflow_add-result : goal.overflow_add-result
overflow_add-result c = omega (arith, size_most (length c.args.bs.now))
