-- `recover::newton::left` meets its contract. The invariant: what the points from here on leave of
-- the rest is what all leave of y. Assumes nothing.
use mathlib.Core.Path.{◌≡◌}
use lib.ListN.{drop}
use Rattle.field.specs.Element.{joined}
use Rattle.recover.specs.Private.{left, xs_of, ds_of}
use Rattle.recover.proofs.newton.left.Given as goal

abbrev pub invariant-loop-p : goal.invariant-loop-p
invariant-loop-p l = left (xs_of (drop l.p-index l.before)) (ds_of (drop l.p-index l.before)) l.x (joined l.rest) ≡ left (xs_of l.before) (ds_of l.before) l.x (joined l.initial.rest)
