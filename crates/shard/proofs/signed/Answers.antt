-- `shard::signed` meets its contract: each judgement in turn, then the write. Assumes nothing.
use Rattle.shard.proofs.Writers.{rest_sized, signed_public, signed_rest, signed_short, signed_fits, signed_done}
use mathlib.Core.Path.{ap}
use mathlib.Core.Bool.{not}
use Rattle.shard.proofs.signed.Goals as goal

pub returns-then-public-ne32 : goal.returns-then-public-ne32
returns-then-public-ne32 c = search signed_public

pub returns-then-not-rest_fits : goal.returns-then-not-rest_fits
returns-then-not-rest_fits c = search signed_rest

pub rest_size-len-requires : goal.rest_size-len-requires
rest_size-len-requires c = rest_sized _ _ _ _ _ _ c.rest_fits.ensures (ap not c.if-not-rest_fits.false)

pub returns-then-out-len : goal.returns-then-out-len
returns-then-out-len c = search signed_short

pub message-requires : goal.message-requires
message-requires c =
    signed_fits _ _ _ _ _ _ _ _ c.if-public-ne32.false c.rest_size-len.ensures.0 c.if-out-len.false

pub returns : goal.returns
returns c = search signed_done
