-- `typed::lines::possible` meets its contract. Assumes nothing.
use Rattle.typed.proofs.Judging.{no_line_zero, no_line_above, last_count, full_count}
use Rattle.typed.proofs.lines.possible.Goals as goal

pub returns-then-number-lt1 : goal.returns-then-number-lt1
returns-then-number-lt1 c = search no_line_zero

pub returns-then-number-gt-MOST_LINES : goal.returns-then-number-gt-MOST_LINES
returns-then-number-gt-MOST_LINES c = search no_line_above

pub returns-then-last : goal.returns-then-last
returns-then-last c = search last_count

pub returns : goal.returns
returns c = search full_count
