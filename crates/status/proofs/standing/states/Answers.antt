use native.Mathlib.Omega.{arith}
use Rattle.status.proofs.Standings.{shown_none, shown_on, shown_all}
use Rattle.status.proofs.standing.states.Goals as goal

pub loop-k-init : goal.loop-k-init
loop-k-init c = search shown_none

pub loop-k-preserved : goal.loop-k-preserved
loop-k-preserved c =
    shown_on _ _ _ _ _ _ _ _ _ c.requires (omega arith) c.place.ensures c.from.ensures c.from-in-loop-k.ensures c.state.ensures c.put.ensures c.loop-k.invariant

pub returns : goal.returns
returns c = search shown_all
