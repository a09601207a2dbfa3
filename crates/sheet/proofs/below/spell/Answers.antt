-- `sheet::below::spell` meets its contract. Assumes nothing.
use Rattle.sheet.proofs.Texts.{spelt_fits, spelt_laid}
use Rattle.sheet.proofs.below.spell.Goals as goal

pub unwrap-requires : goal.unwrap-requires
unwrap-requires c = spelt_fits _ _ _ c.requires.0 c.requires.1 _ c.write.ensures

pub returns : goal.returns
returns c = spelt_laid _ _ _ c.requires.0 c.requires.1 _ c.write.ensures _ c.unwrap.ensures
