-- `field::sum` meets its contract. Assumes nothing.
use borrow.Author.Rules.{rules}
use mir.Syntax.{w64}
use mir.Val.{Fits}
use lib.ListN.{get_or}
use Rattle.field.proofs.Elements.{sum_halves}
use Rattle.field.proofs.sum.Goals as goal

pub returns : goal.returns
returns c =
    let l : Fits w64 (get_or c.args.a 1 0) = search rules in
    let k : Fits w64 (get_or c.args.b 1 0) = search rules in
    sum_halves _ _ _ _ l.fits k.fits
