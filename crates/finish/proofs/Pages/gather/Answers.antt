use Rattle.finish.proofs.Gathering.{gathering_none, gathering_on, gathering_end}
use Rattle.finish.proofs.Pages.gather.Goals as goal

pub loop-page-init : goal.loop-page-init
loop-page-init c = search gathering_none

pub loop-page-preserved : goal.loop-page-preserved
loop-page-preserved c = search gathering_on

pub returns : goal.returns
returns c = search gathering_end
