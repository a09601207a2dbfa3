-- `cbor::read::contents` meets its contract: the bytes are there, or the input ends before.
-- Assumes nothing.
use native.Mathlib.Omega.{arith}
use Rattle.cbor.proofs.Within.{contents_there, contents_cut}
use Rattle.cbor.proofs.read.contents.Goals as goal

pub returns-then-s-at : goal.returns-then-s-at
returns-then-s-at c = contents_cut _ _ _ (omega arith)

pub returns-then-s-at-2 : goal.returns-then-s-at-2
returns-then-s-at-2 c = contents_cut _ _ _ (omega arith)

pub returns : goal.returns
returns c = contents_there _ _ _ (omega arith)
