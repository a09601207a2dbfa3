-- `shard::form::size` meets its contract: a head is at most 9 bytes. Assumes nothing.
use Rattle.shard.proofs.Lengths.{size_at}
use Rattle.shard.proofs.form.size.Goals as goal

pub returns : goal.returns
returns c = search size_at
