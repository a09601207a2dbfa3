use Rattle.finish.proofs.Pulling.{pulling_start, pulling_on, pulling_cut, pulling_end}
use Rattle.finish.proofs.Pages.pull.Goals as goal

pub loop-page-init : goal.loop-page-init
loop-page-init c = search pulling_start

pub returns-then-end-bytes : goal.returns-then-end-bytes
returns-then-end-bytes c = search pulling_cut

pub loop-page-preserved : goal.loop-page-preserved
loop-page-preserved c = search pulling_on

pub returns : goal.returns
returns c = search pulling_end
