-- `field::double` meets its contract. Assumes nothing.
use borrow.Author.Rules.{rules}
use mir.Syntax.{w64}
use mir.Val.{Fits}
use lib.ListN.{get_or}
use Rattle.field.proofs.Elements.{double_halves}
use Rattle.field.proofs.double.Goals as goal

pub returns : goal.returns
returns c =
    let h : Fits w64 (get_or c.args.a 0 0) = search rules in
    let l : Fits w64 (get_or c.args.a 1 0) = search rules in
    double_halves _ _ h.fits l.fits
