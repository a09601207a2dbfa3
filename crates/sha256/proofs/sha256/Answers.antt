-- `sha256::sha256` meets its contract: the blocks of the message where it stands, then those of the
-- padded rest.
use mathlib.Core.Path.{◌≡◌, sym}
use Prim.Native.Nat.{◌+◌, ◌-◌, ◌*◌, ◌/◌, ◌%◌, ◌≤◌}
use native.Mathlib.Omega.{arith}
use lib.ListN.{length}
use lib.Seq.{length-take-le}
use Rattle.sha256.specs.Constants.{start}
use Rattle.sha256.proofs.Message.{tail_fits, in_two}
use Rattle.sha256.proofs.sha256.Goals as goal

pub tail-t-requires : goal.tail-t-requires
tail-t-requires c = omega (arith, tail_fits (length c.args.s.now))

pub slice_bounds-t-end : goal.slice_bounds-t-end
slice_bounds-t-end c = omega (arith, tail_fits (length c.args.s.now))

pub slice_bounds-blocks-end : goal.slice_bounds-blocks-end
slice_bounds-blocks-end c =
    let h : length c.args.s.now % 64 + 9 + c.zeros.result ≤ length c.tail-t.result = omega (arith, tail_fits (length c.args.s.now)) in
    sym (length-take-le _ c.tail-t.result h)

pub returns : goal.returns
unfolding start
returns c =
    let n = length c.args.s.now in
    let e : n - n % 64 ≡ n / 64 * 64 = omega arith in
    in_two c.args.s.now _ _ _ _ _ e c.tail-t.ensures.0 c.blocks-x.ensures c.blocks-2.ensures c.digest.ensures
