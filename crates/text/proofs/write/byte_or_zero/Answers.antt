-- `text::write::byte_or_zero` meets its contract. Assumes nothing.
use mathlib.Core.Path.{sym}
use lib.ListN.{get_or-eq_default}
use Rattle.text.proofs.write.byte_or_zero.Goals as goal

pub returns-else-i-src : goal.returns-else-i-src
returns-else-i-src c = sym (get_or-eq_default c.args.src.now 0 c.if-i-src.false)
