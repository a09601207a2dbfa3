-- `manifest::judge::total` meets its contract: no sum wraps. Assumes nothing.
use native.Mathlib.Omega.{arith}
use Rattle.cbor.proofs.Sizes.{size_most}
use Rattle.manifest.proofs.Lengths.{seed_most, created_most}
use Rattle.manifest.proofs.judge.total.Goals as goal

pub overflow_add-result : goal.overflow_add-result
overflow_add-result c = omega (arith, seed_most c.args.m.seed)

pub overflow_add-result-2 : goal.overflow_add-result-2
overflow_add-result-2 c = omega (arith, seed_most c.args.m.seed, size_most c.args.m.count)

pub overflow_add-result-3 : goal.overflow_add-result-3
overflow_add-result-3 c = omega (arith, seed_most c.args.m.seed, size_most c.args.m.count)

pub overflow_add-result-4 : goal.overflow_add-result-4
overflow_add-result-4 c = omega (arith, seed_most c.args.m.seed, size_most c.args.m.count, created_most c.args.m.created)
