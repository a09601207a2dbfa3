-- `recover::newton::value` meets its contract. The invariant: the value by the points from k on.
-- Assumes nothing.
use mathlib.Core.Path.{◌≡◌}
use lib.ListN.{drop}
use Rattle.field.specs.Element.{joined}
use Rattle.recover.specs.Private.{newton_at, xs_of, ds_of}
use Rattle.recover.proofs.newton.value.Given as goal

abbrev pub invariant-loop-k : goal.invariant-loop-k
invariant-loop-k l = joined l.made ≡ newton_at (xs_of (drop l.k l.curve)) (ds_of (drop l.k l.curve)) l.x
