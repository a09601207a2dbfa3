-- `cbor::read::big_endian` meets its contract. The loop's invariant: n is the number in the first
-- bytes. Assumes nothing.
use Rattle.cbor.proofs.Counting.{Counting}
use Rattle.cbor.proofs.read.big_endian.Given as goal

abbrev pub invariant-loop-x : goal.invariant-loop-x
invariant-loop-x l = Counting l.bs l.n l.x-index
