-- `entry::write::file_fitting` meets its contract: a run of writes is one write. Assumes nothing.
use Rattle.entry.proofs.Writers.{run_room, run_done}
use Rattle.entry.proofs.write.file_fitting.Goals as goal

pub mtime_fitting-requires : goal.mtime_fitting-requires
mtime_fitting-requires c = search run_room

pub returns : goal.returns
returns c =
    run_done _ _ _ _ c.requires _ _ c.part.ensures c.part-2.ensures _ _ _ _ _ _ _ _ c.fixed-a.ensures c.string_field-b.ensures c.string_field-c.ensures c.number_field-d.ensures _ _ c.mtime_fitting.ensures
