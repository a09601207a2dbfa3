-- `collection::offer` meets its contract: the collection is judged, then the frame, then the page
-- is taken. Assumes nothing.
use native.Mathlib.Omega.{arith}
use Rattle.wire.proofs.Answers.{err_is}
use Rattle.collection.proofs.Calls.{passed_of, offer_bad, offer_refused, offer_done}
use Rattle.collection.proofs.Good.{page_ends, page_fits}
use Rattle.collection.proofs.offer.Goals as goal

pub returns-in_err-judge : goal.returns-in_err-judge
returns-in_err-judge c = rw (err_is _ _ c.from_residual.ensures) (offer_bad _ _ c.in_err-judge.ensures _)

pub returns-in_err-page : goal.returns-in_err-page
returns-in_err-page c = rw (err_is _ _ c.from_residual-in_err-page.ensures) (offer_refused _ _ c.in_ok-judge.ensures c.id_copy-id.ensures _ _ c.in_err-page.ensures)

pub overflow_add-end : goal.overflow_add-end
overflow_add-end c = omega (arith, page_ends _ c.args.raw.now _ c.in_ok-page.ensures (λ i. (c.type_inv.raw i).fits))

pub slice_bounds-page-end-2 : goal.slice_bounds-page-end-2
slice_bounds-page-end-2 c = omega (arith, page_ends _ c.args.raw.now _ c.in_ok-page.ensures (λ i. (c.type_inv.raw i).fits))

pub page-requires : goal.page-requires
page-requires c =
    record {
      of = passed_of _ _ c.in_ok-judge.ensures c.id_copy-id.ensures;
      fits = page_fits _ c.args.raw.now _ c.in_ok-page.ensures (λ i. (c.type_inv.raw i).fits);
    }

pub returns : goal.returns
returns c = offer_done _ _ c.in_ok-judge.ensures c.id_copy-id.ensures _ _ _ _ c.in_ok-page.ensures _ _ c.page.ensures
