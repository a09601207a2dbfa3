-- `pantry_work::resume` meets its contract. Assumes nothing.
use Rattle.pantry_work.proofs.Answers.{resume_refused, resume_joined}
use Rattle.pantry_work.proofs.resume.Goals as goal

pub returns-then-s-eq-COLLECTING : goal.returns-then-s-eq-COLLECTING
returns-then-s-eq-COLLECTING c = search resume_joined

pub returns : goal.returns
returns c = search resume_refused
