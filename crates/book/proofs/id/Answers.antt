-- `book::id` meets its contract: the part of it that is there. Assumes nothing.
use Rattle.book.proofs.Heads.{no_id, cut_id, whole_id}
use Rattle.book.proofs.id.Goals as goal

pub returns-then-n-lt-ID_AT : goal.returns-then-n-lt-ID_AT
returns-then-n-lt-ID_AT c = search no_id

pub returns-then-n-lt-TOTAL_AT : goal.returns-then-n-lt-TOTAL_AT
returns-then-n-lt-TOTAL_AT c = search cut_id

pub returns : goal.returns
returns c = search whole_id
