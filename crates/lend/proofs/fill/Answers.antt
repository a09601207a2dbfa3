-- `lend::fill` meets its contract: what does not fit changes nothing. Assumes nothing.
use mathlib.Core.Path.{sym, ap, ◌∙◌}
use Prim.Native.Nat.{ℕ}
use native.Mathlib.Omega.{arith}
use lib.ListN.{replicate, length-replicate}
use Rattle.wire.proofs.Overs.{over_out}
use Rattle.lend.proofs.Parts.{put_over, part_length}
use Rattle.lend.proofs.fill.Goals as goal
use Rattle.lend.proofs.fill.Goals.{else-at-out-via-then-at-out+else-n-out, else-at-out-via-else-at-out}

pub returns-then-n-out : goal.returns-then-n-out
returns-then-n-out c = put_over _ _ _ _ _ (sym (length-replicate c.args.n c.args.b))
    (c.fill.ensures.after (λ y e. e) ∙ ap (λ (k : ℕ). replicate k c.args.b) (part_length _ _ _ c.if-at-out.true c.if-n-out.true)) c.if-at-out.true c.if-n-out.true

pub returns-else-at-out : goal.returns-else-at-out
returns-else-at-out c =
    let a = c.args in
    sym (over_out a.at (replicate a.n a.b) a.out.now (elim c.else-at-out.branch [
      | else-at-out-via-then-at-out+else-n-out w ↦ omega (arith, length-replicate a.n a.b)
      | else-at-out-via-else-at-out w ↦ omega (arith, length-replicate a.n a.b)
    ]))
