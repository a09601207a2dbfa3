-- `frame::read` meets its contract: what each field answered picks its case of the chain.
-- Assumes nothing.
use Rattle.wire.proofs.Answers.{on, off}
use Rattle.frame.specs.Frame.{frame_of}
use Rattle.frame.proofs.Within.{data_ends, numbers_within}
use Rattle.frame.proofs.read.Goals as goal

pub returns-in_default : goal.returns-in_default
unfolding frame_of
returns-in_default c = off _ _ _ _ (rw c.unwrap_err.ensures at c.start-r1.ensures)

pub returns-in_default-r2 : goal.returns-in_default-r2
unfolding frame_of
returns-in_default-r2 c = on _ _ _ _ c.in-Ok.ensures (off _ _ _ _ (rw c.unwrap_err-in_default-r2.ensures at c.read_numbers-r2.ensures))

pub data_and_sum-r3-requires : goal.data_and_sum-r3-requires
data_and_sum-r3-requires c = numbers_within _ _ _ _ (λ i. (c.type_inv.s i).fits) c.in-Ok-r2.ensures

pub returns-in_default-r3 : goal.returns-in_default-r3
unfolding frame_of
returns-in_default-r3 c =
    on _ _ _ _ c.in-Ok.ensures (on _ _ _ _ c.in-Ok-r2.ensures (off _ _ _ _ (rw c.unwrap_err-in_default-r3.ensures at c.data_and_sum-r3.ensures)))

pub returns : goal.returns
unfolding frame_of
returns c =
    on _ _ _ _ c.in-Ok.ensures (on _ _ _ _ c.in-Ok-r2.ensures (on _ _ _ _ (data_ends _ _ _ _ c.in-Ok-r3.ensures) c.judge.ensures))
