-- `crc::crc32` meets its contract. Assumes nothing.
use mathlib.Core.Path.{◌≡◌}
use mathlib.Core.List.{List}
use Prim.Native.Nat.{ℕ, ◌*◌}
use lib.ListN.{drop}
use Rattle.crc.specs.Crc.{through}
use Rattle.crc.proofs.Entries.{Eights}
use Rattle.crc.proofs.crc32.Given as goal

-- t is the table, and the bytes that are left, taken through c, give what all of s gives
abbrev pub Left : List ℕ → List ℕ → ℕ → List ℕ → Type 0
Left s t c left = Eights t × (through c left ≡ through 0xFFFFFFFF s)

abbrev pub invariant-loop-b : goal.invariant-loop-b
invariant-loop-b l = Left l.s l.t l.c (drop (l.b-index * 4) l.s)

abbrev pub invariant-loop-b-2 : goal.invariant-loop-b-2
invariant-loop-b-2 l = Left l.s l.t l.c (drop l.b-index l.rest)
