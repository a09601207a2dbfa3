-- `finish::Pages::id_of_data` meets its contract. The loop's invariant: the state is that after the
-- blocks before the cursor. Assumes nothing.
use Prim.Native.Nat.{◌-◌}
use Rattle.finish.proofs.Pulling.{Absorbing}
use Rattle.finish.proofs.Pages.id_of_data.Given as goal

abbrev pub invariant-loop-end : goal.invariant-loop-end
invariant-loop-end l = Absorbing l.self.c.now l.self.total l.h l.cursor.page l.cursor.at l.end

abbrev pub decreases-loop-end : goal.decreases-loop-end
decreases-loop-end l = l.len - l.end
