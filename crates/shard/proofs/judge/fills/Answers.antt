-- `shard::judge::fills` meets its contract: less than the whole, a block too many, or whole blocks
-- or not. Assumes nothing.
use Rattle.shard.proofs.Tests.{fills_less, fills_more, fills_whole}
use Rattle.shard.proofs.judge.fills.Goals as goal

pub returns-then-share-length : goal.returns-then-share-length
returns-then-share-length c = search fills_less

pub returns-then-share-length-ge16 : goal.returns-then-share-length-ge16
returns-then-share-length-ge16 c = search fills_more

pub returns : goal.returns
returns c = search fills_whole
