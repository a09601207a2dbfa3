use mathlib.Core.Path.{◌≡◌, sym, ◌∙◌}
use borrow.Author.Rules.{rules}
use mir.Syntax.{w64}
use mir.Val.{Fits}
use lib.ListN.{length, get_or}
use native.Mathlib.Omega.{arith}
use Rattle.recover.proofs.Turns.{elements_compared, fits_on, fits_stop, fits_end}
use Rattle.recover.proofs.newton.fits.Goals as goal

pub returns-then-ne : goal.returns-then-ne
returns-then-ne c =
    let a : Fits w64 (get_or c.value-there.result 1 0) = search rules in
    let b : Fits w64 (get_or c.block.result 1 0) = search rules in
    let m : length c.value-there.result ≡ 2 = search rules in
    let n : length c.block.result ≡ 2 = search rules in
    let r = elements_compared _ _ m n a.fits b.fits in
    fits_stop _ _ _ (omega arith) _ c.requires.2 _ c.payload-further.ensures _ c.index.ensures.0 c.value-there.result c.value-there.ensures c.block.result c.block.ensures _ (sym r) c.loop-i.invariant (sym c.ne.ensures ∙ c.if-ne.true)

pub loop-i-preserved : goal.loop-i-preserved
loop-i-preserved c =
    let a : Fits w64 (get_or c.value-there.result 1 0) = search rules in
    let b : Fits w64 (get_or c.block.result 1 0) = search rules in
    let m : length c.value-there.result ≡ 2 = search rules in
    let n : length c.block.result ≡ 2 = search rules in
    let r = elements_compared _ _ m n a.fits b.fits in
    fits_on _ _ _ (omega arith) _ c.requires.2 _ c.payload-further.ensures _ c.index.ensures.0 c.value-there.result c.value-there.ensures c.block.result c.block.ensures _ (sym r) c.loop-i.invariant (sym c.ne.ensures ∙ c.if-ne.false)

pub returns : goal.returns
returns c = fits_end _ _ _ _ (omega arith) c.loop-i.invariant
