-- What mend answers is no more than a number and a count. Assumes nothing.
use mathlib.Core.Path.{◌≡◌}
use Prim.Native.Nat.{ℕ}
use Rattle.std.specs.Prelude.{Result}
use Rattle.wire.specs.Reading.{told}
use Rattle.wire.specs.declared.Refusal.{Refusal}
use Rattle.wire.proofs.Answers.{told_injective}

pub mended_injective : (r q : Result ℕ Refusal) → told r ≡ told q → r ≡ q
mended_injective = told_injective
