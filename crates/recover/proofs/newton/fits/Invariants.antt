-- `recover::newton::fits` meets its contract. The invariant: all behind those of the curve fit
-- exactly where those from i on do. Assumes nothing.
use mathlib.Core.Path.{◌≡◌}
use lib.ListN.{length, drop}
use Rattle.wire.specs.Every.{every}
use Rattle.recover.specs.Private.{fits_in, fitting}
use Rattle.recover.proofs.newton.fits.Given as goal

abbrev pub invariant-loop-i : goal.invariant-loop-i
invariant-loop-i l = fitting (length l.curve) l.k l.slips ≡ every (fits_in (length l.curve) l.k l.slips) (drop l.i l.slips)
