-- `cover::chunk` meets its contract: what the varint reader answered picks its case, and then what
-- is left of the input. Assumes nothing.
use mathlib.Core.Path.{refl}
use native.Mathlib.Omega.{arith}
use Rattle.wire.proofs.Answers.{off, handed_by}
use Rattle.cover.specs.Cover.{chunk_at}
use Rattle.cover.specs.Private.{chunk_told}
use Rattle.cover.proofs.Chain.{length_within, chunk_cut, chunk_stands}
use Rattle.cover.proofs.chunk.Goals as goal

pub returns-in_err-n : goal.returns-in_err-n
unfolding chunk_at
returns-in_err-n c = handed_by chunk_told (λ e. refl) _ _ c.from_residual.ensures _ (off _ _ _ _ c.in_err-n.ensures)

pub overflow_sub-s : goal.overflow_sub-s
overflow_sub-s c = length_within _ _ _ _ (λ i. (c.type_inv.s i).fits) c.in_ok-n.ensures

pub returns-then-s-next : goal.returns-then-s-next
returns-then-s-next c = chunk_cut _ _ _ _ (λ i. (c.type_inv.s i).fits) c.in_ok-n.ensures (omega arith)

pub returns : goal.returns
returns c = chunk_stands _ _ _ _ (λ i. (c.type_inv.s i).fits) c.in_ok-n.ensures (omega arith)
