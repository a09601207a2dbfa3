-- `text::write::encode` meets its contract. The loop's invariant: j characters stand in out.
-- Assumes nothing.
use mathlib.Core.Path.{◌≡◌}
use mathlib.Core.List.{List, map}
use Prim.Native.Nat.{ℕ, ◌≤◌}
use Rattle.wire.specs.Over.{over}
use Rattle.text.specs.Text.{letter}
use Rattle.text.specs.Private.{form_of}
use Rattle.text.proofs.Encoding.{Writing}
use Rattle.text.proofs.write.encode.Given as goal

abbrev pub invariant-loop-j : goal.invariant-loop-j
invariant-loop-j l = (l.j ≤ l.len) × ((vs : List ℕ) × (Writing l.w l.src l.j l.s vs) × (l.out ≡ over 0 (map (letter (form_of l.w)) vs) l.initial.out))
