-- `field::load` meets its contract. Assumes nothing.
use native.Mathlib.Omega.{arith}
use Rattle.field.proofs.Blocks.{block_halves}
use Rattle.field.proofs.load.Goals as goal

pub returns : goal.returns
returns c =
    block_halves c.args.s.now c.word.result c.word-2.result (omega arith)
    c.word.ensures c.word-2.ensures
