-- `text::base64_write` meets its contract: its table is the definition's. Assumes nothing.
use mathlib.Core.Path.{refl}
use mathlib.Core.Logic.{inr}
use Rattle.text.specs.Text.{base64, zbase32, standard64, zooko32}
use Rattle.text.specs.Private.{form_of}
use Rattle.text.proofs.base64_write.Goals as goal

pub write-requires : goal.write-requires
unfolding form_of base64 zbase32 standard64 zooko32
write-requires c = (inr refl, refl)

pub returns : goal.returns
unfolding form_of
returns c = c.write.ensures
