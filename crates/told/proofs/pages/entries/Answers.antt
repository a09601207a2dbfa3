use native.Mathlib.Omega.{arith}
use mathlib.Core.Path.{refl}
use Rattle.told.proofs.Lists.{listing_none, listing_room, listing_on, listing_end}
use Rattle.told.proofs.pages.entries.Goals as goal

pub loop-k-init : goal.loop-k-init
loop-k-init c = search listing_none

pub entry-at-requires : goal.entry-at-requires
entry-at-requires c =
    listing_room _ _ _ _ _ _ _ c.requires c.copy.ensures refl _ _ _ c.loop-k.invariant (omega arith)

pub loop-k-preserved : goal.loop-k-preserved
loop-k-preserved c =
    listing_on _ _ _ _ _ _ _ c.requires c.copy.ensures refl _ _ _ c.loop-k.invariant (omega arith) _ _ c.entry-at.ensures

pub returns : goal.returns
returns c =
    listing_end _ _ _ _ _ _ _ c.requires c.copy.ensures refl _ _ _ c.loop-k.invariant (omega arith)
