use native.Mathlib.Omega.{arith}
use Rattle.split.proofs.Turns.{no_block, next_block, laid_all}
use Rattle.split.proofs.Dealing.share.Goals as goal

pub loop-k-init : goal.loop-k-init
loop-k-init c = no_block _ _ _ _ _ _ _

pub loop-k-preserved : goal.loop-k-preserved
loop-k-preserved c =
    next_block c.args.self.now.n _ _ _ _ _ _ c.loop-k.k _ c.loop-k.invariant _ _ (omega arith) c.requires c.block-b.ensures c.copy.ensures

pub returns : goal.returns
returns c = search laid_all
