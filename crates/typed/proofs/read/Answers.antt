-- `typed::read` meets its contract. Assumes nothing.
use Rattle.std.proofs.lemmas.Bool.{not_from_false, not_from_true}
use mathlib.Core.Path.{sym, ◌∙◌}
use borrow.Author.Tests.{eqb-true, eqb-false}
use native.Mathlib.Omega.{arith}
use lib.Seq.{length-take-le}
use Rattle.typed.proofs.Answers.{read_none, read_unspelt, read_bad, read_all, read_cut, ample}
use Rattle.typed.proofs.read.Goals as goal

pub returns-then-is_empty : goal.returns-then-is_empty
returns-then-is_empty c = read_none _ _ (eqb-true _ _ (sym c.is_empty.ensures ∙ c.if-is_empty.true))

pub returns-then-not-spelt : goal.returns-then-not-spelt
returns-then-not-spelt c = read_unspelt _ _ _ c.spelt.ensures (not_from_false _ c.if-not-spelt.true) _ c.from.ensures

pub returns-in_err-len : goal.returns-in_err-len
returns-in_err-len c =
    read_bad _ _ _ c.spelt.ensures (not_from_true _ c.if-not-spelt.false) (eqb-false _ _ (sym c.is_empty.ensures ∙ c.if-is_empty.false)) _ _ c.gather.ensures.0 _ _ c.from_residual.ensures c.in_err-len.was

pub slice_bounds-contents-end : goal.slice_bounds-contents-end
slice_bounds-contents-end c = omega (arith, ample _ _ c.gather.ensures.1 c.in_ok-len.was)

pub slice_bounds-zbase32_read-end : goal.slice_bounds-zbase32_read-end
slice_bounds-zbase32_read-end c =
    sym (length-take-le c.in_ok-len.len c.gather.new.contents (omega (arith, ample _ _ c.gather.ensures.1 c.in_ok-len.was)))

pub returns-in_err-written : goal.returns-in_err-written
returns-in_err-written c =
    read_cut _ _ _ c.spelt.ensures (not_from_true _ c.if-not-spelt.false) (eqb-false _ _ (sym c.is_empty.ensures ∙ c.if-is_empty.false)) _ _ c.gather.ensures.0 _ _ c.in_ok-len.was _ _ _ c.from_residual-in_err-written.ensures c.in_err-written.was c.zbase32_read.ensures

pub returns : goal.returns
returns c =
    read_all _ _ _ c.spelt.ensures (not_from_true _ c.if-not-spelt.false) (eqb-false _ _ (sym c.is_empty.ensures ∙ c.if-is_empty.false)) _ _ c.gather.ensures.0 _ _ c.in_ok-len.was _ c.in_ok-written.ensures
