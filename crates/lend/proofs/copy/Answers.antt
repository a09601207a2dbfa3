-- `lend::copy` meets its contract: what does not fit changes nothing. Assumes nothing.
use mathlib.Core.Path.{sym}
use native.Mathlib.Omega.{arith}
use Rattle.wire.proofs.Overs.{over_out}
use Rattle.lend.proofs.copy.Goals as goal
use Rattle.lend.proofs.copy.Goals.{else-at-out-via-then-at-out+else-src-out, else-at-out-via-else-at-out}

pub returns-else-at-out : goal.returns-else-at-out
returns-else-at-out c =
    let a = c.args in
    sym (over_out a.at a.src.now a.out.now (elim c.else-at-out.branch [
      | else-at-out-via-then-at-out+else-src-out w ↦ omega arith
      | else-at-out-via-else-at-out w ↦ omega arith
    ]))
