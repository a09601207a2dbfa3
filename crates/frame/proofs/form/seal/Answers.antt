-- `frame::form::seal` meets its contract. Assumes nothing.
use mathlib.Core.Path.{sym}
use native.Mathlib.Omega.{arith}
use lib.Seq.{length-take-le}
use Rattle.frame.proofs.form.seal.Goals as goal

pub slice_bounds-sum-end-2 : goal.slice_bounds-sum-end-2
slice_bounds-sum-end-2 c = sym (length-take-le _ _ (omega arith))

pub returns : goal.returns
returns c = cc
