-- `cover::form::lay` meets its contract: the room is judged first. Assumes nothing.
use native.Mathlib.Omega.{arith}
use lib.ListN.{length}
use Rattle.varint.proofs.Lengths.{varint_length}
use Rattle.cover.proofs.Laying.{lay_short, lay_fits, lay_done}
use Rattle.cover.proofs.form.lay.Goals as goal

pub overflow_add-heads : goal.overflow_add-heads
overflow_add-heads c = omega (arith, varint_length (length c.args.manifest.now))

pub overflow_add-heads-2 : goal.overflow_add-heads-2
overflow_add-heads-2 c = let a = c.args in omega (arith, varint_length (length a.manifest.now), varint_length (length a.payload.now))

pub returns-then-out-heads : goal.returns-then-out-heads
returns-then-out-heads c = lay_short _ _ _ _ _ c.size.ensures c.size-2.ensures (omega arith)

pub returns-then-left-manifest : goal.returns-then-left-manifest
returns-then-left-manifest c = lay_short _ _ _ _ _ c.size.ensures c.size-2.ensures (omega arith)

pub returns-then-left-manifest-2 : goal.returns-then-left-manifest-2
returns-then-left-manifest-2 c = lay_short _ _ _ _ _ c.size.ensures c.size-2.ensures (omega arith)

pub lay_fitting-requires : goal.lay_fitting-requires
lay_fitting-requires c =
    lay_fits _ _ c.args.out.now _ _ c.size.ensures c.size-2.ensures (omega arith)

pub returns : goal.returns
returns c =
    lay_done _ _ _ _ _ c.size.ensures c.size-2.ensures (omega arith) _ _ c.lay_fitting.ensures
