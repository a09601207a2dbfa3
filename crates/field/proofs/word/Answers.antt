use mathlib.Core.Path.{◌≡◌, refl, ap, ◌∙◌}
use Prim.Native.Nat.{ℕ}
use native.Mathlib.Omega.{arith}
use lib.ListN.{drop}
use Rattle.wire.specs.Number.{number, number_from}
use Rattle.field.specs.Element.{filled}
use Rattle.field.proofs.Blocks.{word_more, word_lt, word_room}
use Rattle.field.proofs.word.Goals as goal

pub loop-i-init : goal.loop-i-init
unfolding filled number_from
loop-i-init c = (refl, omega arith)

pub overflow_mul-w : goal.overflow_mul-w
overflow_mul-w c = let l = c.loop-i in omega (arith, word_room l.i l.w (omega arith) l.invariant.1)

pub overflow_add-w : goal.overflow_add-w
overflow_add-w c = let l = c.loop-i in omega (arith, word_room l.i l.w (omega arith) l.invariant.1, c.byte.ensures.1)

pub loop-i-preserved : goal.loop-i-preserved
loop-i-preserved c =
    let l = c.loop-i in
    let a = c.args in (
      word_more a.s.now a.k l.i l.w _ l.invariant.0 c.byte.ensures.0,
      word_lt l.i l.w _ l.invariant.1 c.byte.ensures.1,
    )

pub returns : goal.returns
returns c =
    let l = c.loop-i in
    let e : l.i ≡ 8 = omega arith in
    let a = c.args in
    l.invariant.0 ∙ ap (λ (j : ℕ). number 256 (filled j (drop a.k a.s.now))) e
