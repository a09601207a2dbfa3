-- `frame::form::body` meets its contract: writes in a row are one. Assumes nothing.
use Rattle.frame.proofs.Laying.{body_laid}
use Rattle.frame.proofs.form.body.Goals as goal

pub returns : goal.returns
returns c =
    let pre = c.requires in
    body_laid _ _ _ _ _ _ pre.0 _ _ _ _ pre.1 c.start.ensures c.numbers-n.ensures c.copy.ensures
