-- `status::standing::of` meets its contract. Assumes nothing.
use Rattle.wire.proofs.Answers.{err_is}
use Rattle.status.proofs.Standings.{standing_refused, standing_short, standing_disagree, standing_said}
use Rattle.status.proofs.standing.of.Goals as goal

pub returns-in_err-judge : goal.returns-in_err-judge
returns-in_err-judge c = rw (err_is _ _ c.from_residual.ensures) (standing_refused _ _ _ c.in_err-judge.ensures)

pub returns-then-out-lt-MOST_PAGES : goal.returns-then-out-lt-MOST_PAGES
returns-then-out-lt-MOST_PAGES c = search (standing_short, c.in_ok-judge.ensures)

pub returns-then-state-eq-DISAGREE : goal.returns-then-state-eq-DISAGREE
returns-then-state-eq-DISAGREE c = search (standing_disagree, c.in_ok-judge.ensures)

pub returns-else-state-eq-DISAGREE : goal.returns-else-state-eq-DISAGREE
returns-else-state-eq-DISAGREE c = search (standing_said, c.in_ok-judge.ensures)
