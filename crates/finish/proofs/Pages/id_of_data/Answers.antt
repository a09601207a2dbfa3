use Rattle.finish.proofs.Pulling.{absorbing_start, absorbing_on, absorbing_end}
use Rattle.finish.proofs.Pages.id_of_data.Goals as goal

pub loop-end-init : goal.loop-end-init
loop-end-init c = search absorbing_start

pub returns-then-len-end : goal.returns-then-len-end
returns-then-len-end c = search absorbing_end

pub loop-end-preserved : goal.loop-end-preserved
loop-end-preserved c =
    absorbing_on _ _ _ c.requires _ _ _ _ c.loop-end.invariant _ _ _ c.pull-next.ensures c.if-len-end.false _ c.block-state.ensures
