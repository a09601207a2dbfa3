-- `notes::raise` meets its contract. Assumes nothing.
use Rattle.notes.proofs.Steps.{raise_past, raise_one}
use Rattle.notes.proofs.raise.Goals as goal

pub returns-then-k-notes : goal.returns-then-k-notes
returns-then-k-notes c = search raise_one

pub returns-else-k-notes : goal.returns-else-k-notes
returns-else-k-notes c = search raise_past
