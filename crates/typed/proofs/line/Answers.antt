-- `typed::line` meets its contract. Assumes nothing.
use Rattle.std.proofs.lemmas.Bool.{not_from_false, not_from_true}
use mathlib.Core.Path.{sym}
use native.Mathlib.Omega.{arith}
use lib.Seq.{length-take-le}
use Rattle.typed.proofs.Judging.{placed, line_unspelt, line_impossible, line_bounds, line_right, line_wrong}
use Rattle.typed.proofs.line.Goals as goal

pub returns-then-not-spelt : goal.returns-then-not-spelt
returns-then-not-spelt c = placed _ _ c.from.ensures _ (line_unspelt _ _ _ _ c.spelt.ensures (not_from_false _ c.if-not-spelt.true))

pub returns-then-not-possible : goal.returns-then-not-possible
returns-then-not-possible c =
    placed _ _ c.from-then-not-possible.ensures _
    (line_impossible _ _ _ _ c.spelt.ensures (not_from_true _ c.if-not-spelt.false) _ c.squeeze-n.ensures.0 _ c.possible.ensures (not_from_false _ c.if-not-possible.true))

pub slice_bounds-kept-end : goal.slice_bounds-kept-end
slice_bounds-kept-end c =
    let l = line_bounds _ _ _ _ c.spelt.ensures (not_from_true _ c.if-not-spelt.false) _ c.squeeze-n.ensures.0 _ c.possible.ensures (not_from_true _ c.if-not-possible.false) in
    omega (arith, l.1)

pub slice_bounds-right-end : goal.slice_bounds-right-end
slice_bounds-right-end c =
    let l = line_bounds _ _ _ _ c.spelt.ensures (not_from_true _ c.if-not-spelt.false) _ c.squeeze-n.ensures.0 _ c.possible.ensures (not_from_true _ c.if-not-possible.false) in
    sym (length-take-le c.squeeze-n.result c.squeeze-n.new.kept (omega (arith, l.1)))

pub right-requires : goal.right-requires
right-requires c =
    let l = line_bounds _ _ _ _ c.spelt.ensures (not_from_true _ c.if-not-spelt.false) _ c.squeeze-n.ensures.0 _ c.possible.ensures (not_from_true _ c.if-not-possible.false) in
    let n = length-take-le c.squeeze-n.result c.squeeze-n.new.kept (omega (arith, l.1)) in
    (omega (arith, l.0, n), omega (arith, l.1, n))

pub returns-then-not-right : goal.returns-then-not-right
returns-then-not-right c =
    let l = line_bounds _ _ _ _ c.spelt.ensures (not_from_true _ c.if-not-spelt.false) _ c.squeeze-n.ensures.0 _ c.possible.ensures (not_from_true _ c.if-not-possible.false) in
    line_wrong _ _ _ _ c.spelt.ensures (not_from_true _ c.if-not-spelt.false) _ c.squeeze-n.ensures.0 _ c.possible.ensures (not_from_true _ c.if-not-possible.false) _ (c.squeeze-n.ensures.1 (omega (arith, l.1))) _ c.right.ensures c.if-not-right.true

pub returns : goal.returns
returns c =
    let l = line_bounds _ _ _ _ c.spelt.ensures (not_from_true _ c.if-not-spelt.false) _ c.squeeze-n.ensures.0 _ c.possible.ensures (not_from_true _ c.if-not-possible.false) in
    line_right _ _ _ _ c.spelt.ensures (not_from_true _ c.if-not-spelt.false) _ c.squeeze-n.ensures.0 _ c.possible.ensures (not_from_true _ c.if-not-possible.false) _ (c.squeeze-n.ensures.1 (omega (arith, l.1))) _ c.right.ensures c.if-not-right.false
