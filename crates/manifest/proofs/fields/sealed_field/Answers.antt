-- `manifest::fields::sealed_field` meets its contract: the key, the byte, and that it agrees with
-- the seed. Assumes nothing.
use Rattle.cbor.proofs.Only.{any_field_next}
use Rattle.manifest.proofs.fields.sealed_field.Goals as goal

pub overflow_add-result : goal.overflow_add-result
overflow_add-result c = search (any_field_next, c.in_ok-first.ensures)
