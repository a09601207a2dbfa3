-- `digits::refused_line` meets its contract. Assumes nothing.
use Rattle.digits.proofs.Decimals.{refused_given}
use Rattle.digits.proofs.refused_line.Goals as goal

pub returns : goal.returns
returns c = search refused_given
