-- `typing::framed` meets its contract. Assumes nothing.
use mathlib.Core.Path.{refl}
use Rattle.std.specs.Prelude.{Ok, Err}
use Rattle.typing.proofs.Framing.{framed_refused, framed_done, framed_short}
use Rattle.typing.proofs.framed.Goals as goal

pub returns-in_err-_frame : goal.returns-in_err-_frame
returns-in_err-_frame c = framed_refused _ (Err _) c.in_err-_frame.ensures _ _ _ c.from_residual.ensures refl

pub returns-in_err-given : goal.returns-in_err-given
returns-in_err-given c =
    framed_short _ (Ok _) c.in_ok-_frame.ensures _ refl _ _ _ _ c.scan-len.ensures _ _ _ c.from_residual-in_err-given.ensures c.in_err-given.was c.give.ensures

pub returns : goal.returns
returns c = framed_done _ (Ok _) c.in_ok-_frame.ensures _ refl _ _ _ _ c.scan-len.ensures _ c.in_ok-given.ensures
