-- `typed::lines::close` meets its contract. Assumes nothing.
use mathlib.Core.Path.{refl}
use Rattle.typed.proofs.Steps.{close_held}
use Rattle.typed.proofs.lines.close.Goals as goal

pub returns : goal.returns
returns c =
    (close_held c.args.t c.args.line.now c.args.contents.now c.requires.0 c.requires.2 _ _ c.requires.1 c.requires.3 c.first_wrong-wrong.ensures c.copy.ensures, refl, refl, refl)
