-- `payload_frame::carry` meets its contract: the id and the length, the payload, and then the
-- frame. Assumes nothing.
use mathlib.Core.Path.{refl}
use Rattle.wire.proofs.Answers.{err_is}
use Rattle.payload_frame.proofs.Judging.{no_id, too_long, not_carried, carried}
use Rattle.payload_frame.proofs.carry.Goals as goal

pub returns-in_default : goal.returns-in_default
returns-in_default g c = λ a reads. no_id _ _ _ _ _ c.in_default.ensures.1

pub returns-then-contents-gt-MOST_DATA : goal.returns-then-contents-gt-MOST_DATA
returns-then-contents-gt-MOST_DATA g c = λ a reads. too_long _ _ _ _ _ c.in-Ok.ensures.1.long c.if-contents-gt-MOST_DATA.true

pub returns-in_err-read : goal.returns-in_err-read
returns-in_err-read g c = λ a reads.
    rw (err_is _ _ c.from_residual.ensures) (not_carried _ _ _ _ _ c.in-Ok.ensures.1.long c.if-contents-gt-MOST_DATA.false _ (reads _ _ refl c.in_err-read.ensures))

pub returns : goal.returns
returns g c = λ a reads. carried _ _ _ _ _ c.in-Ok.ensures.1.long c.if-contents-gt-MOST_DATA.false (reads _ _ refl c.in_ok-read.ensures) _ _ (rw (← c.in-Ok.ensures.1.same, ← c.from.ensures) c.lay.ensures)
