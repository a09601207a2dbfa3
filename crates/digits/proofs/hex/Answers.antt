-- `digits::hex` meets its contract: what does not fit changes nothing. Assumes nothing.
use native.Mathlib.Omega.{arith}
use Rattle.digits.proofs.Hexes.{hex_out}
use Rattle.digits.proofs.hex.Goals as goal
use Rattle.digits.proofs.hex.Goals.{else-at-out-via-then-at-out+else-src-out, else-at-out-via-else-at-out}

pub returns-else-at-out : goal.returns-else-at-out
returns-else-at-out c = hex_out _ _ _ (elim c.else-at-out.branch [
  | else-at-out-via-then-at-out+else-src-out w ↦ omega arith
  | else-at-out-via-else-at-out w ↦ omega arith
])
