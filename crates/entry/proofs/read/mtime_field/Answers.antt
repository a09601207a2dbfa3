-- `entry::read::mtime_field` meets its contract: the key, then null or an integer. Assumes nothing.
use Rattle.cbor.proofs.Only.{any_field_next}
use Rattle.entry.proofs.read.mtime_field.Goals as goal

pub overflow_add-result : goal.overflow_add-result
overflow_add-result c = search (any_field_next, c.in_ok-first.ensures)
