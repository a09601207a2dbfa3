-- `cover::read` meets its contract: what each field answered picks its case of the chain.
-- Assumes nothing.
use native.Mathlib.Omega.{arith}
use Rattle.cover.proofs.Chain.{chunk_within}
use Rattle.cover.proofs.read.Goals as goal

pub overflow_add-manifest : goal.overflow_add-manifest
overflow_add-manifest c = omega (arith, chunk_within _ _ _ c.in_ok-manifest.ensures)

pub overflow_add-payload : goal.overflow_add-payload
overflow_add-payload c = omega (arith, chunk_within _ _ _ c.in_ok-payload.ensures)
