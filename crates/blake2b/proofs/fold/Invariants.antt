-- `blake2b::fold` meets its contract. The loop's invariant: the first i words are those of the
-- definition. Assumes nothing.
use Rattle.std.proofs.Common.{◌≡◌, ℕ, ◌+◌, List, length, get_or, take}
use lib.Bits.{bit_xor}
use Rattle.blake2b.specs.Blake2b.{vector}
use Rattle.blake2b.proofs.fold.Given as goal

abbrev pub xored : List ℕ → List ℕ → ℕ → ℕ
xored h v i = bit_xor (bit_xor (get_or h i 0) (get_or v i 0)) (get_or v (i + 8) 0)

abbrev pub invariant-loop-i : goal.invariant-loop-i
invariant-loop-i l = (length l.x ≡ 8) × (take l.i l.x ≡ vector l.i (xored l.h l.v))
