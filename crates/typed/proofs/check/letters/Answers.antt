-- `typed::check::letters` meets its contract. Assumes nothing.
use Rattle.typed.proofs.Weighing.{check_written}
use Rattle.typed.proofs.check.letters.Goals as goal

pub returns : goal.returns
returns c = search check_written
