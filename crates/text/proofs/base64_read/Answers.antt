-- `text::base64_read` meets its contract: its table is the definition's, by computing both.
-- Assumes nothing.
use mathlib.Core.Path.{refl}
use mathlib.Core.Logic.{inr}
use Rattle.text.specs.Text.{base64, zbase32, standard64, zooko32, skipped, place}
use Rattle.text.specs.Private.{form_of, sort}
use Rattle.text.proofs.Entries.{sorted}
use Rattle.text.proofs.base64_read.Goals as goal

pub read-requires : goal.read-requires
unfolding form_of base64 zbase32 standard64 zooko32 skipped place sort
read-requires c = (inr refl, sorted 6)

pub returns : goal.returns
unfolding form_of
returns c = c.read.ensures
