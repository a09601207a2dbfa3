-- `split::split` meets its contract: each judgement in turn, then the shares. Assumes nothing.
use native.Mathlib.Omega.{arith}
use mathlib.Core.Path.{ap}
use mathlib.Core.Bool.{not}
use Rattle.split.proofs.Verdicts.{quorum_kept, coefficients_few, shares_few, split_quorum, split_empty, split_long, split_other, split_short, split_done}
use Rattle.split.proofs.split.Goals as goal

pub returns-then-not-quorum_allowed : goal.returns-then-not-quorum_allowed
returns-then-not-quorum_allowed c = search split_quorum

pub returns-then-secret-lt1 : goal.returns-then-secret-lt1
returns-then-secret-lt1 c = search split_empty

pub returns-then-secret-gt-MOST_SHARE : goal.returns-then-secret-gt-MOST_SHARE
returns-then-secret-gt-MOST_SHARE c = search split_long

pub overflow_sub-more : goal.overflow_sub-more
overflow_sub-more c =
    (quorum_kept _ _ _ c.quorum_allowed.ensures (ap not c.if-not-quorum_allowed.false)).0

pub overflow_mul-more : goal.overflow_mul-more
overflow_mul-more c =
    let q = quorum_kept _ _ _ c.quorum_allowed.ensures (ap not c.if-not-quorum_allowed.false) in
    omega (arith, q.1, q.2)

pub overflow_mul-n : goal.overflow_mul-n
overflow_mul-n c =
    omega (arith, coefficients_few _ _ _ c.quorum_allowed.ensures (ap not c.if-not-quorum_allowed.false) _ c.if-secret-gt-MOST_SHARE.false)

pub returns-then-coefficients-n : goal.returns-then-coefficients-n
returns-then-coefficients-n c = search split_other

pub overflow_mul-len-2 : goal.overflow_mul-len-2
overflow_mul-len-2 c =
    omega (arith, shares_few _ _ _ c.quorum_allowed.ensures (ap not c.if-not-quorum_allowed.false) _ c.if-secret-gt-MOST_SHARE.false)

pub returns-then-out-len : goal.returns-then-out-len
returns-then-out-len c = search split_short

pub shares-requires : goal.shares-requires
shares-requires c =
    ((quorum_kept _ _ _ c.quorum_allowed.ensures (ap not c.if-not-quorum_allowed.false)).2, c.if-out-len.false)

pub returns : goal.returns
returns c = search split_done
