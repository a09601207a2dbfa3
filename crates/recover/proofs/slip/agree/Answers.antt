-- `recover::slip::agree` meets its contract. Assumes nothing.
use mathlib.Core.Path.{◌∙◌, ap₂}
use Rattle.recover.specs.Recover.{alike}
use Rattle.recover.proofs.Payloads.{slip_said}
use Rattle.recover.proofs.slip.agree.Goals as goal

pub returns : goal.returns
returns c = c.say_the_same.ensures ∙ ap₂ alike (slip_said _ _ c.said-v.ensures) (slip_said _ _ c.said-w.ensures)
