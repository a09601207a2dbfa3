-- `typed::lay::further` meets its contract: the lines of all rows but those that are left stand in
-- front. Assumes nothing.
use mathlib.Core.Path.{◌≡◌}
use Rattle.std.specs.Slice.Iter.{chunks_rest, chunks_size}
use Rattle.typed.proofs.Laying.{Lined}
use Rattle.typed.proofs.lay.further.Given as goal

abbrev pub invariant-loop-row : goal.invariant-loop-row
invariant-loop-row l = (chunks_size l.row-iterator ≡ 40) × Lined l.chars l.initial.out l.first l.start (chunks_rest l.row-iterator) l.at l.number l.out
