use mathlib.Core.Path.{◌≡◌, sym, ◌∙◌}
use native.Mathlib.Omega.{arith}
use lib.ListN.{length-set}
use lib.Seq.{take_all}
use Rattle.sha256.proofs.Filling.{next_more}
use borrow.Author.Rules.{rules}
use Rattle.sha256.proofs.schedule.Goals as goal

pub loop-t-init : goal.loop-t-init
loop-t-init c = (c.words-w.ensures.1, c.words-w.ensures.0)

pub loop-t-preserved : goal.loop-t-preserved
loop-t-preserved c =
    let l = c.loop-t in (
      simp length-set (search rules),
      next_more l.w c.args.b.now l.t c.next-x.result (omega arith) (omega arith) l.invariant.1 c.next-x.ensures,
    )

pub returns : goal.returns
returns c =
    let l = c.loop-t in
    let e : l.t ≡ 64 = omega arith in
    sym (take_all 64 l.w (omega arith)) ∙ rw e at l.invariant.1
