-- `cbor::write::size` meets its contract, as its call says. Assumes nothing.
use mathlib.Core.Path.{ap}
use Prim.Native.Nat.{ℕ, ◌+◌}
use Rattle.cbor.specs.Form.{head_size}
use Rattle.cbor.proofs.write.size.Goals as goal

pub returns : goal.returns
unfolding head_size
returns c = ap (λ (k : ℕ). 1 + k) c.following.ensures.0
