-- `text::pack::low` meets its contract. Assumes nothing.
use mathlib.Core.Path.{ap}
use Prim.Native.Nat.{ℕ, ◌%◌}
use lib.Pow.{pow_pos}
use Rattle.text.proofs.Packing.{one_shifted}
use Rattle.text.proofs.pack.low.Goals as goal

pub nonzero_rem-result : goal.nonzero_rem-result
nonzero_rem-result c = rw (one_shifted c.args.left c.requires) (pow_pos c.args.left)

pub returns : goal.returns
returns c = ap (λ (n : ℕ). c.args.bits % n) (one_shifted c.args.left c.requires)
