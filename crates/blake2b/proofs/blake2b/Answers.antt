-- `blake2b::blake2b` meets its contract. The message's own blocks but the last, and then the padded
-- one, are those of the padded message. Assumes nothing.
use Rattle.std.proofs.Common.{length, arith}
use Rattle.blake2b.proofs.Reading.{dd_blocks, split_digest}
use Rattle.blake2b.proofs.blake2b.Goals as goal

pub overflow_mul-last_block : goal.overflow_mul-last_block
overflow_mul-last_block c = omega (arith, dd_blocks (length c.args.s.now))

pub split_at-requires : goal.split_at-requires
split_at-requires c = omega (arith, dd_blocks (length c.args.s.now))

pub tail-requires : goal.tail-requires
tail-requires c = omega (arith, dd_blocks (length c.args.s.now), c.split_at.ensures.back_len)

pub returns : goal.returns
returns c = split_digest c.args.s.now _ _ _ _ _ _ _ c.last_block.ensures c.start.ensures c.split_at.ensures.front c.split_at.ensures.back c.blocks-x.ensures c.tail.ensures c.last.ensures
