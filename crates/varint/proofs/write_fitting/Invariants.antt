-- `varint::write_fitting` meets its contract. The loop's invariant: with the bytes of m from i on
-- the output is as it has to be. Assumes nothing.
use Rattle.wire.specs.Over.{over}
use Rattle.varint.specs.Varint.{varint}
use Rattle.varint.proofs.Stores.{Storing}
use Rattle.varint.proofs.write_fitting.Given as goal

abbrev pub invariant-loop-m : goal.invariant-loop-m
invariant-loop-m l = Storing (over l.at (varint l.n) l.initial.out) l.initial.out l.out l.m l.i

abbrev pub decreases-loop-m : goal.decreases-loop-m
decreases-loop-m l = l.m
