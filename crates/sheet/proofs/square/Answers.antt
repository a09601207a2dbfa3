-- `sheet::square` meets its contract. Assumes nothing.
use Rattle.sheet.proofs.Texts.{square_fits, square_laid}
use Rattle.sheet.proofs.square.Goals as goal

pub unwrap-requires : goal.unwrap-requires
unwrap-requires c = square_fits _ _ _ c.requires.0 _ _ _ c.requires.1 c.write_base64.ensures

pub returns : goal.returns
returns c = square_laid _ _ _ c.requires.0 _ _ _ c.requires.1 c.write_base64.ensures _ c.unwrap.ensures
