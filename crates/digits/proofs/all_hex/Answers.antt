-- `digits::all_hex` meets its contract. Assumes nothing.
use borrow.Author.Tests.{tests}
use lib.Dec.{ltb}
use Rattle.std.proofs.Common.{rules}
use Rattle.std.proofs.lemmas.Iterator.{YieldsList-from_slice}
use Rattle.std.proofs.lemmas.Iterator.Search.{all_from_yields_List}
use Rattle.digits.specs.Hex.{hex_value}
use Rattle.digits.proofs.Hexes.{all_every}
use Rattle.digits.proofs.all_hex.Goals as goal

pub returns : goal.returns
returns c = all_every _ _ _ (all_from_yields_List (λ b. ltb (hex_value b) 16) _ _ _ c.all.ensures.ran (YieldsList-from_slice c.args.s.now cc) (λ x b q k. search (rules, tests)))
