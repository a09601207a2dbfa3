-- `lend::plain` meets its contract. The loop's invariant: the bytes passed are shown. Assumes
-- nothing.
use Rattle.lend.specs.Plain.{plain_byte}
use Rattle.lend.proofs.Shown.{Shown}
use Rattle.lend.proofs.plain.Given as goal

abbrev pub invariant-loop-b : goal.invariant-loop-b
invariant-loop-b l = Shown plain_byte l.initial.word l.word l.b-index
