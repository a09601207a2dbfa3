-- `typing::whole` meets its contract. Assumes nothing.
use Rattle.typing.proofs.Framing.{frame_refused, frame_good}
use Rattle.typing.proofs.whole.Goals as goal

pub returns-in-Ok : goal.returns-in-Ok
returns-in-Ok c = frame_good _ _ c.read.ensures _ c.in-Ok.is

pub returns-in-Err : goal.returns-in-Err
returns-in-Err c = frame_refused _ _ c.read.ensures _ _ c.in-Err.is c.from.ensures
