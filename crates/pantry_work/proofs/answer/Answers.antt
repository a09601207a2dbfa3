-- `pantry_work::answer` meets its contract. Assumes nothing.
use Rattle.pantry_work.proofs.Answers.{answer_refused, answer_finished}
use Rattle.pantry_work.proofs.answer.Goals as goal

pub returns-then-s-ne-COLLECTING : goal.returns-then-s-ne-COLLECTING
returns-then-s-ne-COLLECTING c = search answer_refused

pub returns : goal.returns
returns c = search answer_finished
