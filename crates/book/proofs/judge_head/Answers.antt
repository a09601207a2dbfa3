-- `book::judge_head` meets its contract. Assumes nothing.
use Rattle.book.proofs.Heads.{head_fine, head_bad}
use Rattle.book.proofs.judge_head.Goals as goal

pub returns-then-head_ok : goal.returns-then-head_ok
returns-then-head_ok c = search head_fine

pub returns : goal.returns
returns c = search head_bad
