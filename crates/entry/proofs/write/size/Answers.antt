-- `entry::write::size` meets its contract: no sum wraps. Assumes nothing.
use native.Mathlib.Omega.{arith}
use Rattle.cbor.proofs.Sizes.{size_most}
use Rattle.entry.proofs.Sizes.{mtime_most}
use Rattle.entry.proofs.write.size.Goals as goal

pub overflow_add-result : goal.overflow_add-result
overflow_add-result c = omega (arith, size_most c.args.f.path.len)

pub overflow_add-result-2 : goal.overflow_add-result-2
overflow_add-result-2 c = omega (arith, size_most c.args.f.path.len)

pub overflow_add-result-3 : goal.overflow_add-result-3
overflow_add-result-3 c = omega (arith, size_most c.args.f.path.len, size_most c.args.f.size)

pub overflow_add-result-4 : goal.overflow_add-result-4
overflow_add-result-4 c = omega (arith, size_most c.args.f.path.len, size_most c.args.f.size, mtime_most c.args.f.mtime)
