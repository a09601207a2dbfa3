-- `notes::note` meets its contract. Assumes nothing.
use Rattle.notes.proofs.Steps.{note_first, note_nowhere, note_scan, note_over}
use Rattle.notes.proofs.note.Goals as goal

pub returns-then-notes-gt-FAULT : goal.returns-then-notes-gt-FAULT
returns-then-notes-gt-FAULT c = search note_first

pub returns-else-notes-gt-FAULT : goal.returns-else-notes-gt-FAULT
returns-else-notes-gt-FAULT c = search note_nowhere

pub returns-then-phase-eq-COLLECTING : goal.returns-then-phase-eq-COLLECTING
returns-then-phase-eq-COLLECTING c = search note_scan

pub returns-else-phase-eq-COLLECTING : goal.returns-else-phase-eq-COLLECTING
returns-else-phase-eq-COLLECTING c = search note_over
