-- `typed::lines::spelt` meets its contract. Assumes nothing.
use mathlib.Core.Bool.{◌||◌}
use borrow.Author.Tests.{tests}
use Rattle.std.proofs.Common.{rules}
use Rattle.std.proofs.lemmas.Iterator.{YieldsList-from_slice}
use Rattle.std.proofs.lemmas.Iterator.Search.{all_from_yields_List}
use Rattle.digits.proofs.Hexes.{all_every}
use Rattle.typed.specs.Typed.{skipped}
use Rattle.typed.specs.Private.{typable}
use Rattle.typed.proofs.lines.spelt.Goals as goal

pub returns : goal.returns
returns c =
    all_every _ _ _ (all_from_yields_List (λ b. skipped b || typable c.args.feeds b) _ _ _ c.all.ensures.ran (YieldsList-from_slice c.args.text.now cc) (λ x b q k. search (rules, tests)))
