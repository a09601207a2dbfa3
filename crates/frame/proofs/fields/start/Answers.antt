-- `frame::fields::start` meets its contract: what each field answered picks its case of the chain.
-- Assumes nothing.
use Rattle.wire.proofs.Answers.{reads, on, off}
use Rattle.frame.specs.Frame.{start_of}
use Rattle.frame.proofs.Within.{kind_within}
use Rattle.frame.proofs.fields.start.Goals as goal

pub returns-in_default : goal.returns-in_default
unfolding start_of
returns-in_default c = off _ _ _ _ (rw c.unwrap_err.ensures at c.read-r1.ensures)

pub returns-in_default-r2 : goal.returns-in_default-r2
unfolding start_of
returns-in_default-r2 c = on _ _ _ _ c.in-Ok.ensures (off _ _ _ _ (rw c.unwrap_err-in_default-r2.ensures at c.kind-r2.ensures))

pub id-r3-requires : goal.id-r3-requires
id-r3-requires c = kind_within _ _ _ _ c.in-Ok-r2.ensures

pub returns-in_default-r3 : goal.returns-in_default-r3
unfolding start_of
returns-in_default-r3 c =
    on _ _ _ _ c.in-Ok.ensures (on _ _ _ _ c.in-Ok-r2.ensures (off _ _ _ _ (rw c.unwrap_err-in_default-r3.ensures at c.id-r3.ensures)))

pub returns : goal.returns
unfolding start_of
returns c = search (reads, c.in-Ok.ensures, c.in-Ok-r2.ensures, c.in-Ok-r3.ensures) depth 40
