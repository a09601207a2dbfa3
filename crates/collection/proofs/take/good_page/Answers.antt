-- `take::good_page` meets its contract: the frame's own refusal, then the type and the id. A frame
-- that is read fits the casts. Assumes nothing.
use native.Mathlib.Omega.{arith}
use Rattle.wire.proofs.Answers.{err_is}
use Rattle.collection.proofs.Good.{frame_total, frame_index, frame_long, good_refused, good_kind, good_id, good_yes}
use Rattle.collection.proofs.take.good_page.Goals as goal

pub returns-in_err-f : goal.returns-in_err-f
returns-in_err-f c = rw (err_is _ _ c.from_residual.ensures) (good_refused _ _ _ c.in_err-f.ensures)

pub returns-then-ne : goal.returns-then-ne
returns-then-ne c = good_kind _ _ _ c.in_ok-f.ensures _ c.ne.ensures (grind arith)

pub slice_bounds-equal-end : goal.slice_bounds-equal-end
slice_bounds-equal-end c =
    omega (arith, frame_long c.args.raw.now _ c.in_ok-f.ensures (λ i. (c.type_inv.raw i).fits))

pub returns-then-not-equal : goal.returns-then-not-equal
returns-then-not-equal c = good_id _ _ _ c.in_ok-f.ensures _ c.ne.ensures _ (grind arith) c.equal.ensures c.if-not-equal.true

pub overflow_cast-result : goal.overflow_cast-result
overflow_cast-result c =
    record { fits = frame_index c.args.raw.now _ c.in_ok-f.ensures (λ i. (c.type_inv.raw i).fits) }

pub overflow_cast-result-2 : goal.overflow_cast-result-2
overflow_cast-result-2 c =
    record { fits = frame_total c.args.raw.now _ c.in_ok-f.ensures (λ i. (c.type_inv.raw i).fits) }

pub returns : goal.returns
returns c = good_yes _ _ _ c.in_ok-f.ensures _ c.ne.ensures _ (grind arith) c.equal.ensures c.if-not-equal.false
