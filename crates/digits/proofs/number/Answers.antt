-- `digits::number` meets its contract. Assumes nothing.
use Rattle.digits.proofs.Numerals.{number_laid}
use Rattle.digits.proofs.number.Goals as goal

pub returns : goal.returns
returns c =
    let s = c.spell-i in
    number_laid _ _ _ _ _ _ s.auto.room s.ensures c.copy.ensures
