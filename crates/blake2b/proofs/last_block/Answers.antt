-- `blake2b::last_block` meets its contract. Assumes nothing.
use Rattle.std.proofs.Common.{ℕ, ◌/◌, ap, ◌∙◌}
use Rattle.blake2b.proofs.Reading.{last_dd}
use Rattle.blake2b.proofs.last_block.Goals as goal

pub returns : goal.returns
returns c = ap (λ (n : ℕ). n / 128) c.saturating_sub.ensures ∙ last_dd c.args.n
