-- `cbor::short::following` meets its contract: it joins what its two calls say. Assumes nothing.
use mathlib.Core.Path.{ap, ◌∙◌}
use Rattle.cbor.specs.Form.{width_of}
use borrow.Author.Rules.{rules}
use Rattle.cbor.proofs.short.following.Goals as goal

pub returns : goal.returns
returns c = (c.width.ensures.0 ∙ ap width_of c.info.ensures.0, search rules)
