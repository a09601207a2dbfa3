-- `sheet::below::frame` meets its contract. Assumes nothing.
use Rattle.sheet.proofs.Texts.{frame_fits, frame_laid}
use Rattle.sheet.proofs.below.frame.Goals as goal

pub unwrap-requires : goal.unwrap-requires
unwrap-requires c = frame_fits _ _ _ c.requires.0 _ _ _ c.requires.1 c.write.ensures

pub returns : goal.returns
returns c = frame_laid _ _ _ c.requires.0 _ _ _ c.requires.1 c.write.ensures _ c.unwrap.ensures
