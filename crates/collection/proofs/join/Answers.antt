-- `collection::join` meets its contract: each is judged, then 12, then the two are joined.
-- Assumes nothing.
use mathlib.Core.Path.{refl}
use Rattle.wire.proofs.Answers.{err_is}
use Rattle.collection.proofs.Calls.{passed_of, same_id, join_bad, join_other_bad, join_two, join_done}
use Rattle.book.proofs.Judging.{judge_passed}
use Rattle.collection.proofs.join.Goals as goal

pub returns-in_err-judge : goal.returns-in_err-judge
returns-in_err-judge c = rw (err_is _ _ c.from_residual.ensures) (join_bad _ _ c.in_err-judge.ensures _)

pub returns-in_err-judge-2 : goal.returns-in_err-judge-2
returns-in_err-judge-2 c = rw (err_is _ _ c.from_residual-in_err-judge-2.ensures) (join_other_bad _ _ _ c.in_ok-judge.ensures c.in_err-judge-2.ensures)

pub returns-then-not-equal : goal.returns-then-not-equal
returns-then-not-equal c = join_two _ _ c.in_ok-judge.ensures c.id_copy-id.ensures _ c.in_ok-judge-2.ensures _ _ c.id.ensures c.equal.ensures c.if-not-equal.true

pub books-requires : goal.books-requires
books-requires c =
    record {
      of = passed_of _ _ c.in_ok-judge.ensures c.id_copy-id.ensures;
      of_2 = (judge_passed _ _ c.in_ok-judge-2.ensures refl, same_id _ _ _ _ c.id.ensures c.equal.ensures c.if-not-equal.false);
    }

pub returns : goal.returns
returns c = join_done _ _ c.in_ok-judge.ensures c.id_copy-id.ensures _ c.in_ok-judge-2.ensures _ _ c.id.ensures c.equal.ensures _ c.if-not-equal.false c.books.ensures
