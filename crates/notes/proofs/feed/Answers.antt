use native.Mathlib.Omega.{arith}
use Rattle.notes.proofs.Steps.{noting_none, noting_on, noting_end_lem}
use Rattle.notes.proofs.feed.Goals as goal

pub loop-b-init : goal.loop-b-init
loop-b-init c = search noting_none

pub loop-b-preserved : goal.loop-b-preserved
loop-b-preserved c = search noting_on

pub returns : goal.returns
returns c = noting_end_lem _ _ _ _ _ _ _ _ _ _ c.loop-b.invariant (omega arith)
