-- `notes::line::seen` meets its contract. Assumes nothing.
use Rattle.notes.proofs.Offers.{seen_yes, seen_no}
use Rattle.notes.proofs.line.seen.Goals as goal

pub returns-then-equal : goal.returns-then-equal
returns-then-equal c = search seen_yes

pub returns : goal.returns
returns c = search seen_no
