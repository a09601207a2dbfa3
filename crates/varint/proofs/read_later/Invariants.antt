-- `varint::read_later` meets its contract. The loop's invariant: the whole answer is what the bytes
-- from i on add to n. Assumes nothing.
use lib.ListN.{drop}
use Rattle.varint.specs.Varint.{onto, later_from}
use Rattle.varint.proofs.Turns.{State}
use Rattle.varint.proofs.read_later.Given as goal

abbrev pub invariant-loop-i : goal.invariant-loop-i
invariant-loop-i l = State (onto l.low 128 (later_from 8 l.from (drop l.from l.s))) l.s l.n l.w l.left l.i
