use Rattle.manifest.proofs.Laying.{lay_more, lay_end}
use Rattle.manifest.proofs.form.list.Goals as goal

pub loop-f-preserved : goal.loop-f-preserved
loop-f-preserved c = search lay_more

pub returns : goal.returns
returns c = search lay_end
