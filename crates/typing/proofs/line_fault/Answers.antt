-- `typing::line_fault` meets its contract. Assumes nothing.
use Rattle.typing.proofs.Pages.{line_right, line_letter, line_count, line_mistyped}
use Rattle.typing.proofs.line_fault.Goals as goal

pub returns-in-Ok : goal.returns-in-Ok
returns-in-Ok c = line_right _ _ _ c.line.ensures _ c.in-Ok.is

pub returns-in-BadCharacter : goal.returns-in-BadCharacter
returns-in-BadCharacter c = rw c.from.ensures (line_letter _ _ _ c.line.ensures _ c.in-Err.is c.in-BadCharacter.is)

pub returns-in-BadTextLength : goal.returns-in-BadTextLength
returns-in-BadTextLength c = line_count _ _ _ c.line.ensures _ c.in-Err.is _ c.in-BadTextLength.is c.counted.ensures

pub returns-in_default : goal.returns-in_default
returns-in_default c = line_mistyped _ _ _ c.line.ensures _ c.in-Err.is c.in_default.not-BadCharacter c.in_default.not-BadTextLength
