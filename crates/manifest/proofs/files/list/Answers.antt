-- `manifest::files::list` meets its contract: the key, the count, the files. Assumes nothing.
use mathlib.Core.Path.{sym}
use Rattle.cbor.proofs.Within.{number_within}
use Rattle.manifest.proofs.files.list.Goals as goal

pub run-requires : goal.run-requires
run-requires c = (number_within _ _ 4 1 64 19 (sym c.in_ok-n.ensures)).1
