-- `sha256::words` meets its contract: the schedule's first t words stand, and a turn adds the
-- block's word t.
use mathlib.Core.Path.{◌≡◌}
use lib.ListN.{length, take}
use Rattle.sha256.specs.Sha.{schedule}
use Rattle.sha256.proofs.words.Given as goal

abbrev pub invariant-loop-t : goal.invariant-loop-t
invariant-loop-t l = (length l.w ≡ 64) × (take l.t l.w ≡ schedule l.t l.b)
