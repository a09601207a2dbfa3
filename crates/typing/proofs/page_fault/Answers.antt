-- `typing::page_fault` meets its contract. Assumes nothing.
use mathlib.Core.Path.{sym, ◌∙◌}
use borrow.Author.Tests.{eqb-true, eqb-false}
use lib.Seq.{length-take-le}
use Rattle.typing.proofs.Pages.{read_room, fault_nothing, fault_read, fault_letter, fault_count, fault_mistyped}
use Rattle.typing.proofs.page_fault.Goals as goal

pub returns-then-is_empty : goal.returns-then-is_empty
returns-then-is_empty c = fault_nothing _ (eqb-true _ _ (sym c.is_empty.ensures ∙ c.if-is_empty.true))

pub slice_bounds-bytes-end : goal.slice_bounds-bytes-end
slice_bounds-bytes-end c = read_room _ _ _ c.read.ensures _ c.in-Ok.is c.read.auto.out

pub slice_bounds-whole-end : goal.slice_bounds-whole-end
slice_bounds-whole-end c = sym (length-take-le c.in-Ok.len c.read.new.out (read_room _ _ _ c.read.ensures _ c.in-Ok.is c.read.auto.out))

pub returns-in-Ok : goal.returns-in-Ok
returns-in-Ok c = fault_read _ _ _ c.read.ensures _ c.in-Ok.is _ (eqb-false _ _ (sym c.is_empty.ensures ∙ c.if-is_empty.false)) c.whole.ensures

pub returns-in-BadCharacter : goal.returns-in-BadCharacter
returns-in-BadCharacter c = fault_letter _ _ _ c.read.ensures _ c.in-Err.is (eqb-false _ _ (sym c.is_empty.ensures ∙ c.if-is_empty.false)) _ c.in-BadCharacter.is c.odd_line.ensures

pub returns-in-BadTextLength : goal.returns-in-BadTextLength
returns-in-BadTextLength c = fault_count _ _ _ c.read.ensures _ c.in-Err.is (eqb-false _ _ (sym c.is_empty.ensures ∙ c.if-is_empty.false)) _ c.in-BadTextLength.is c.count.ensures

pub returns-in_default : goal.returns-in_default
returns-in_default c = fault_mistyped _ _ _ c.read.ensures _ c.in-Err.is (eqb-false _ _ (sym c.is_empty.ensures ∙ c.if-is_empty.false)) c.in_default.not-BadCharacter c.in_default.not-BadTextLength
