-- `notes::note_byte` meets its contract. Assumes nothing.
use Rattle.notes.proofs.Steps.{note_more, note_ended}
use Rattle.notes.proofs.note_byte.Goals as goal

pub returns-then-b-ne10 : goal.returns-then-b-ne10
returns-then-b-ne10 c = search note_more

pub returns : goal.returns
returns c = search note_ended
