-- `page::write_text` meets its contract. Assumes nothing.
use mathlib.Core.Path.{sym}
use native.Mathlib.Omega.{arith}
use lib.Seq.{length-take-le}
use Rattle.wire.proofs.Answers.{err_is}
use Rattle.page.proofs.Typing.{made_fits, typed_done, typed_refused}
use Rattle.page.proofs.write_text.Goals as goal

pub returns-in_err-len : goal.returns-in_err-len
returns-in_err-len g c = λ f spells. rw (err_is _ _ c.from_residual.ensures) (typed_refused _ _ _ _ _ _ c.in_err-len.ensures (omega arith) f _)

pub slice_bounds-room-end : goal.slice_bounds-room-end
slice_bounds-room-end g c = made_fits _ _ _ _ c.in_ok-len.ensures (omega arith)

pub slice_bounds-spell-end : goal.slice_bounds-spell-end
slice_bounds-spell-end g c = sym (length-take-le _ _ (made_fits _ _ _ _ c.in_ok-len.ensures (omega arith)))

pub returns : goal.returns
returns g c = λ f spells. typed_done _ _ _ _ c.in_ok-len.ensures f _ _ _ (spells _ _ _ _ c.spell.ensures)
