use native.Mathlib.Omega.{arith}
use Rattle.split.proofs.Sharing.{part_fits}
use Rattle.split.proofs.Turns.{no_share, share_fits, next_share, given_all}
use Rattle.split.proofs.Dealing.shares.Goals as goal

pub loop-i-init : goal.loop-i-init
loop-i-init c = no_share _ _ _ _ _ _

pub overflow_mul-at-in-loop-i : goal.overflow_mul-at-in-loop-i
overflow_mul-at-in-loop-i c =
    omega (arith, part_fits c.loop-i.i c.args.count _ _ (omega arith) c.requires.1)

pub share-requires : goal.share-requires
share-requires c = share_fits _ _ _ _ _ _ _ _ c.loop-i.invariant (omega arith) c.requires.1

pub loop-i-preserved : goal.loop-i-preserved
loop-i-preserved c = search next_share

pub returns : goal.returns
returns c = search given_all
