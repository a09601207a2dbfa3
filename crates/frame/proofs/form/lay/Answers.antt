-- `frame::form::lay` meets its contract: the room is judged first, and what is summed is what was
-- written. Assumes nothing.
use native.Mathlib.Omega.{arith}
use lib.ListN.{length}
use Rattle.frame.proofs.Lengths.{numbers_most, body_length}
use Rattle.frame.proofs.Laying.{lay_short, lay_done}
use Rattle.frame.proofs.form.lay.Goals as goal

pub overflow_add-len : goal.overflow_add-len
overflow_add-len c = let a = c.args in omega (arith, numbers_most a.index a.total (length a.contents.now))

pub overflow_add-len-2 : goal.overflow_add-len-2
overflow_add-len-2 c = let a = c.args in omega (arith, numbers_most a.index a.total (length a.contents.now))

pub returns-then-out-len : goal.returns-then-out-len
returns-then-out-len c = search lay_short

pub seal-requires : goal.seal-requires
seal-requires c =
    omega (arith, body_length c.args.kind c.args.id.now c.args.index c.args.total c.args.contents.now c.requires)

pub returns : goal.returns
returns c = search lay_done
