-- `text::zbase32_value` meets its contract: its table is the definition's. Assumes nothing.
use native.Mathlib.Omega.{arith}
use Rattle.text.specs.Text.{base64, zbase32, standard64, zooko32, skipped, place}
use Rattle.text.specs.Private.{form_of, sort}
use Rattle.text.proofs.Entries.{sorted}
use Rattle.text.proofs.Singles.{value_small, value_none}
use Rattle.text.proofs.zbase32_value.Goals as goal

pub returns-then-v-lt32 : goal.returns-then-v-lt32
unfolding form_of base64 zbase32 standard64 zooko32 skipped place sort
returns-then-v-lt32 c = let a = c.args in value_small a.c _ (sorted 5 a.c (omega arith)) c.if-v-lt32.true

pub returns : goal.returns
unfolding form_of base64 zbase32 standard64 zooko32 skipped place sort
returns c = let a = c.args in value_none a.c _ (sorted 5 a.c (omega arith)) c.if-v-lt32.false
