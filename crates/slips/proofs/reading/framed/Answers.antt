-- `slips::reading::framed` meets its contract. Assumes nothing.
use Rattle.slips.proofs.Seeing.{frame_refused, frame_other, frame_key}
use Rattle.slips.proofs.reading.framed.Goals as goal

pub returns-in-Err : goal.returns-in-Err
returns-in-Err c = search frame_refused

pub returns-in-Key : goal.returns-in-Key
returns-in-Key c = search frame_key

pub returns-in_default : goal.returns-in_default
returns-in_default c = search frame_other
