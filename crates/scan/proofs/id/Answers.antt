-- `scan::id` meets its contract: the length, and then what the digits say. Assumes nothing.
use Rattle.scan.proofs.Scans.{id_length, id_hex}
use Rattle.scan.proofs.id.Goals as goal

pub returns-then-line-ne16 : goal.returns-then-line-ne16
returns-then-line-ne16 c = search id_length

pub returns : goal.returns
returns c = search id_hex
