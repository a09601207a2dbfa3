use Prim.Native.Nat.{◌-◌, min}
use mathlib.Core.Path.{◌≡◌, ap, ◌∙◌}
use native.Mathlib.Omega.{arith}
use lib.ListN.{length, drop, length-drop}
use lib.Seq.{take_all}
use Rattle.std.proofs.Common.{rules}
use Rattle.std.specs.Slice.Iter.{chunks_rest}
use Rattle.wire.proofs.Overs.{length_over}
use Rattle.typed.proofs.Laying.{lined_none, lined_same, lined_few, lined_room, lined_next, lined_end}
use Rattle.typed.proofs.lay.further.Goals as goal

pub loop-row-init : goal.loop-row-init
loop-row-init c =
    let p = c.requires in
    let cs = c.args.chars.now in
    let first = c.args.first in
    let all = take_all (length cs - first) (drop first cs) (omega (arith, length-drop first cs)) in (
      search rules,
      lined_none _ _ _ _ _ (ap chunks_rest c.into_iter-row-iterator.ensures.into_iter_gives ∙ c.chunks-row-items.ensures.rest ∙ all) p.0 p.2 p.3,
    )

pub overflow_add-number : goal.overflow_add-number
overflow_add-number c =
    let more = c.in-Some.ensures.steps.1.2 in
    omega (arith, lined_few _ _ _ _ _ _ _ _ c.loop-row.invariant.1 more)

pub overflow_add-at : goal.overflow_add-at
overflow_add-at c =
    let more = c.in-Some.ensures.steps.1.2 in
    omega (arith, lined_room _ _ _ _ _ _ _ _ c.loop-row.invariant.1 more)

pub line-at-requires : goal.line-at-requires
line-at-requires c =
    let steps = c.in-Some.ensures.steps in
    let l = c.loop-row.invariant.1 in
    let room = lined_room _ _ _ _ _ _ _ _ l steps.1.2 in
    let same = ap length c.put.ensures ∙ length_over _ _ _ ∙ lined_same _ _ _ _ _ _ _ _ l in
    let size : length c.in-Some.row.now ≡ min 40 (length (chunks_rest c.loop-row.row-iterator)) = rw c.loop-row.invariant.0 at steps.1.1 in
    (omega (arith, size), omega (arith, room, same, size, c.requires.4))

pub loop-row-preserved : goal.loop-row-preserved
loop-row-preserved c =
    let steps = c.in-Some.ensures.steps in (
      steps.0 ∙ c.loop-row.invariant.0,
      lined_next _ _ _ _ _ _ _ _ c.loop-row.invariant.1 steps.1.2 _ _ _ _ _ c.requires.4 steps.1.0 (rw c.loop-row.invariant.0 at steps.1.1) c.put.ensures c.line-at.ensures,
    )

pub returns : goal.returns
returns c = lined_end _ _ _ _ _ _ _ _ c.loop-row.invariant.1 c.in-None.ensures.steps.1.0
