-- `collection::open` meets its contract: the id, the size, then the empty collection.
-- Assumes nothing.
use Rattle.collection.proofs.Calls.{open_id, open_size, open_done}
use Rattle.collection.proofs.open.Goals as goal

pub returns-then-id-ne-ID_SIZE : goal.returns-then-id-ne-ID_SIZE
returns-then-id-ne-ID_SIZE c = search open_id

pub returns-then-c-ne-COLLECTION_SIZE : goal.returns-then-c-ne-COLLECTION_SIZE
returns-then-c-ne-COLLECTION_SIZE c = search open_size

pub returns : goal.returns
returns c = search open_done
