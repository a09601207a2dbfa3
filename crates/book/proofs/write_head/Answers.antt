-- `book::write_head` meets its contract: all before the sum, then the sum; nothing where the id or
-- the room does not suffice. Assumes nothing.
use Rattle.book.proofs.Heads.{head_id, head_short, head_done}
use Rattle.book.proofs.write_head.Goals as goal

pub returns-then-id-ne-ID_SIZE : goal.returns-then-id-ne-ID_SIZE
returns-then-id-ne-ID_SIZE c = search head_id

pub returns-then-c-lt-BLOCK_SIZE : goal.returns-then-c-lt-BLOCK_SIZE
returns-then-c-lt-BLOCK_SIZE c = search head_short

pub returns : goal.returns
returns c = search head_done
