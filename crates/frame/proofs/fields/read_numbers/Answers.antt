-- `frame::fields::read_numbers` meets its contract: what each varint answered picks its case of the
-- chain. Assumes nothing.
use Rattle.wire.proofs.Answers.{reads, on, off}
use Rattle.frame.specs.Frame.{numbers_at}
use Rattle.frame.proofs.fields.read_numbers.Goals as goal

pub returns-in_default : goal.returns-in_default
unfolding numbers_at
returns-in_default c = off _ _ _ _ (rw c.unwrap_err.ensures at c.read-r1.ensures)

pub returns-in_default-r2 : goal.returns-in_default-r2
unfolding numbers_at
returns-in_default-r2 c = on _ _ _ _ c.in-Ok.ensures (off _ _ _ _ (rw c.unwrap_err-in_default-r2.ensures at c.read-r2.ensures))

pub returns-in_default-r3 : goal.returns-in_default-r3
unfolding numbers_at
returns-in_default-r3 c =
    on _ _ _ _ c.in-Ok.ensures (on _ _ _ _ c.in-Ok-r2.ensures (off _ _ _ _ (rw c.unwrap_err-in_default-r3.ensures at c.read-r3.ensures)))

pub returns : goal.returns
unfolding numbers_at
returns c = search (reads, c.in-Ok.ensures, c.in-Ok-r2.ensures, c.in-Ok-r3.ensures) depth 24
