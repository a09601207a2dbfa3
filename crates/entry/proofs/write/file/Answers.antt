-- `entry::write::file` meets its contract: what is refused or does not fit is not written.
-- Assumes nothing.
use Rattle.entry.proofs.Writers.{put_refused, put_outside, put_short, file_room, file_put}
use Rattle.entry.proofs.write.file.Goals as goal

pub returns-in_default : goal.returns-in_default
returns-in_default c = search put_refused

pub returns-then-out-at : goal.returns-then-out-at
returns-then-out-at c = search put_outside

pub returns-then-out-at-2 : goal.returns-then-out-at-2
returns-then-out-at-2 c = search put_short

pub file_fitting-requires : goal.file_fitting-requires
file_fitting-requires c = search file_room

pub returns : goal.returns
returns c = search file_put
