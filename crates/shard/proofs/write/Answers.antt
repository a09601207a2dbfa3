-- `shard::write` meets its contract: each judgement in turn, then the write. Assumes nothing.
use Rattle.shard.proofs.Writers.{rest_sized, shard_public, shard_sig, shard_rest, shard_short, shard_fits, shard_done}
use mathlib.Core.Path.{ap}
use mathlib.Core.Bool.{not}
use Rattle.shard.proofs.write.Goals as goal

pub returns-then-public-ne32 : goal.returns-then-public-ne32
returns-then-public-ne32 c = search shard_public

pub returns-then-sig-ne64 : goal.returns-then-sig-ne64
returns-then-sig-ne64 c = search shard_sig

pub returns-then-not-rest_fits : goal.returns-then-not-rest_fits
returns-then-not-rest_fits c = search shard_rest

pub rest_size-len-requires : goal.rest_size-len-requires
rest_size-len-requires c = rest_sized _ _ _ _ _ _ c.rest_fits.ensures (ap not c.if-not-rest_fits.false)

pub returns-then-out-len : goal.returns-then-out-len
returns-then-out-len c = search shard_short

pub payload-requires : goal.payload-requires
payload-requires c =
    shard_fits _ _ _ _ _ _ _ _ c.if-public-ne32.false c.rest_size-len.ensures.0 _ c.if-sig-ne64.false c.if-out-len.false

pub returns : goal.returns
returns c = search shard_done
