-- `text::zbase32_letter` meets its contract: its table is the definition's. Assumes nothing.
use mathlib.Core.Path.{refl, sym}
use lib.ListN.{get_or-eq_default}
use Rattle.text.specs.Text.{zbase32, zooko32}
use Rattle.text.proofs.zbase32_letter.Goals as goal

pub returns-then-v-lt32 : goal.returns-then-v-lt32
unfolding zbase32 zooko32
returns-then-v-lt32 c = refl

pub returns : goal.returns
unfolding zbase32 zooko32
returns c = sym (get_or-eq_default zbase32.alphabet 0 c.if-v-lt32.false)
