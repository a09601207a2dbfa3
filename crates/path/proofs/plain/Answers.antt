-- `path::plain` meets its contract: each character is judged, and no text is refused.
-- Assumes nothing.
use mathlib.Core.Path.{◌∙◌}
use lib.Dec.{ltb}
use Rattle.std.proofs.Common.{rules, tests}
use Rattle.std.proofs.lemmas.Iterator.{YieldsList-from_chars}
use Rattle.std.proofs.lemmas.Iterator.Search.{all_from_yields_List}
use Rattle.path.proofs.Texts.{text_plain, no_text}
use Rattle.path.proofs.plain.Goals as goal

pub returns-in-Ok : goal.returns-in-Ok
returns-in-Ok c =
    let s = c.args.s.now in
    let u = c.in-Ok.ensures.cases.1 in
    all_from_yields_List (λ x. ltb x 0x300) _ _ c.all.result c.all.ensures.ran
    (YieldsList-from_chars s u (c.chars.ensures.rest ∙ c.in-Ok.ensures.cases.0))
    (λ x b q k. search (rules, tests))
    ∙ text_plain s u

pub returns-in-Err : goal.returns-in-Err
returns-in-Err c = no_text _ c.in-Err.ensures.cases.0
