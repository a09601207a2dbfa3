-- `recover::judge::all_distinct` meets its contract. The invariant: no number comes twice exactly
-- where none from i on was seen before or comes twice. Assumes nothing.
use mathlib.Core.Path.{◌≡◌}
use mathlib.Core.List.{map}
use lib.ListN.{length, drop}
use Rattle.recover.specs.Recover.{distinct}
use Rattle.recover.specs.Private.{index_in}
use Rattle.recover.proofs.Judging.{fresh}
use Rattle.recover.proofs.judge.all_distinct.Given as goal

abbrev pub invariant-loop-i : goal.invariant-loop-i
invariant-loop-i l = (length l.seen ≡ 256) × (distinct (map index_in l.slips) ≡ fresh l.seen (map index_in (drop l.i l.slips)))
