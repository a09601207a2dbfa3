use native.Mathlib.Omega.{arith}
use Rattle.finish.proofs.Gathering.{sized_none, sized_on, sized_end}
use Rattle.finish.proofs.Pages.size.Goals as goal

pub loop-page-init : goal.loop-page-init
loop-page-init c = search sized_none

pub loop-page-preserved : goal.loop-page-preserved
loop-page-preserved c = search sized_on

pub returns : goal.returns
returns c = (search sized_end, omega arith)
