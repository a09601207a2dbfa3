-- `text::pack::joined` meets its contract: the shift loses nothing. Assumes nothing.
use mathlib.Core.Path.{ap}
use Prim.Native.Nat.{ℕ, ◌+◌}
use native.Mathlib.Omega.{arith}
use Rattle.text.proofs.Packing.{shift_exact, shift_small}
use Rattle.text.proofs.pack.joined.Goals as goal

pub overflow_add-result : goal.overflow_add-result
overflow_add-result c =
    let a = c.args in
    omega (arith, shift_exact a.bits a.size c.requires.0 c.requires.1, shift_small a.bits a.size c.requires.0 c.requires.1)

pub returns : goal.returns
returns c =
    let a = c.args in
    ap (λ (n : ℕ). n + a.v) (shift_exact a.bits a.size c.requires.0 c.requires.1)
