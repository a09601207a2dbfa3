-- `notes::note_last` meets its contract. Assumes nothing.
use Rattle.notes.proofs.Steps.{last_none, last_line}
use Rattle.notes.proofs.note_last.Goals as goal

pub returns-then-s-eq0 : goal.returns-then-s-eq0
returns-then-s-eq0 c = search last_none

pub returns : goal.returns
returns c = search last_line
