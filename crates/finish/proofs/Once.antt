-- Two answers and two outputs that keep the same promise are equal. Assumes nothing.
use mathlib.Core.Path.{◌≡◌}
use mathlib.Core.List.{List}
use Prim.Native.Nat.{ℕ}
use Rattle.std.specs.Prelude.{Result}
use Rattle.wire.specs.Answer.{Change, Kept}
use Rattle.wire.specs.Reading.{told_at}
use Rattle.wire.specs.declared.RefusedAt.{RefusedAt}
use Rattle.wire.proofs.Answers.{told_at_injective}
use Rattle.wire.proofs.Writes.{kept_once}

-- finish has one answer, and leaves one output
pub finished_once : {d : Change ℕ} {out x y : List ℕ} (r q : Result ℕ RefusedAt) → Kept d out x (told_at r) → Kept d out y (told_at q) → (r ≡ q) × (x ≡ y)
finished_once r q p o = let (e, f) = kept_once p o in (told_at_injective r q e, f)
