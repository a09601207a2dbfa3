-- `digits::hex_read` meets its contract: the length, the digits, the room, and then the bytes.
-- Assumes nothing.
use borrow.Author.Rules.{rules}
use Rattle.digits.proofs.Hexes.{digits_all, read_odd, read_other, read_short, read_done}
use Rattle.digits.proofs.hex_read.Goals as goal
use Rattle.digits.proofs.hex_read.Goals.{then-s-ne0-via-then-s-ne0, then-s-ne0-via-else-s-ne0+then-not-all_hex}

pub returns-then-s-ne0 : goal.returns-then-s-ne0
returns-then-s-ne0 c = elim c.then-s-ne0.branch [
  | then-s-ne0-via-then-s-ne0 w ↦ read_odd _ _ w.if-s-ne0.true
  | then-s-ne0-via-else-s-ne0+then-not-all_hex w ↦ read_other _ _ w.if-s-ne0.false _ w.all_hex.ensures (rw w.if-not-all_hex.true)
]

pub returns-then-out-n : goal.returns-then-out-n
returns-then-out-n c = search read_short

pub read_fitting-requires : goal.read_fitting-requires
read_fitting-requires c = (search digits_all, search rules)

pub returns : goal.returns
returns c = search read_done
