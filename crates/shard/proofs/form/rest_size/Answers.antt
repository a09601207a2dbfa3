-- `shard::form::rest_size` meets its contract: the lengths of the fields, added up.
-- Assumes nothing.
use Rattle.shard.proofs.Lengths.{rest_size_at}
use Rattle.shard.proofs.form.rest_size.Goals as goal

pub returns : goal.returns
returns c =
    let p = c.requires in
    rest_size_at _ _ _ _ _ _ _ _ _ _ p.0 p.1 p.2
    c.size.ensures
    c.size-2.ensures
    c.size-3.ensures
    c.size-4.ensures
    c.size-5.ensures
