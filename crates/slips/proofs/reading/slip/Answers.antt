-- `slips::reading::slip` meets its contract. Assumes nothing.
use Rattle.slips.proofs.Seeing.{shard_short, shard_given}
use Rattle.slips.proofs.reading.slip.Goals as goal

pub returns-in-Err-give : goal.returns-in-Err-give
returns-in-Err-give c = search shard_short

pub returns-in-Ok-give : goal.returns-in-Ok-give
returns-in-Ok-give c = search shard_given
