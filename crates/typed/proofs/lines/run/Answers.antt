use mathlib.Core.Path.{refl, sym, ◌∙◌}
use native.Mathlib.Omega.{arith}
use borrow.Author.Rules.{rules}
use Rattle.typed.specs.Private.{held}
use Rattle.typed.proofs.Steps.{stopped, ran_stop, ran_on, goes_on, ran_all}
use Rattle.typed.proofs.lines.run.Goals as goal

pub loop-c-init : goal.loop-c-init
unfolding held
loop-c-init c = (omega arith, refl, record { short = omega arith; first = omega arith; last = omega arith; made = omega arith }, refl, refl)

pub feed-requires : goal.feed-requires
feed-requires c =
    (c.loop-c.invariant.2, c.loop-c.invariant.3 ∙ c.requires.0, c.loop-c.invariant.4 ∙ c.requires.1)

pub returns-in_err-t : goal.returns-in_err-t
returns-in_err-t c = stopped _ _ c.from_residual.ensures _ _ _ (ran_stop c.args.text.now c.loop-c.c-index (held c.loop-c.t c.loop-c.line c.loop-c.contents) (omega arith) _ _ _ c.feed.ensures.0 _ c.in_err-t.was ∙ sym c.loop-c.invariant.1)

pub loop-c-preserved : goal.loop-c-preserved
loop-c-preserved c =
    let a = c.args in (
      omega arith,
      c.loop-c.invariant.1 ∙ ran_on a.text.now c.loop-c.c-index (held c.loop-c.t c.loop-c.line c.loop-c.contents) (omega arith) _ _ _ c.feed.ensures.0 c.in_ok-t.t c.in_ok-t.was,
      goes_on _ c.in_ok-t.t c.feed.ensures.1 c.in_ok-t.was,
      search rules,
      search rules,
    )

pub returns : goal.returns
returns c =
    let l = c.loop-c in
    (ran_all _ l.c-index _ (omega arith) ∙ sym l.invariant.1, l.invariant.2)
