-- `text::read::read` meets its contract: what was judged decides, in the order of R5.5.
-- Assumes nothing.
use borrow.Author.Rules.{rules}
use Rattle.text.proofs.Verdicts.{read_bad, read_count, read_bits, read_short, read_below, read_fits, read_done}
use Rattle.text.proofs.read.read.Goals as goal

pub returns-in_default : goal.returns-in_default
returns-in_default c = search read_bad

pub returns-then-w-count : goal.returns-then-w-count
returns-then-w-count c = search read_count

pub returns-then-bits-ne0 : goal.returns-then-bits-ne0
returns-then-bits-ne0 c = search read_bits

pub returns-then-out-made : goal.returns-then-out-made
returns-then-out-made c = search read_short

pub decode-requires : goal.decode-requires
decode-requires c = (search rules, search rules, search read_below, search read_fits)

pub returns : goal.returns
returns c = search read_done
