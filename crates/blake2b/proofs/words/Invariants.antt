-- `blake2b::words` meets its contract. The loop's invariant: the first i words are those of the
-- definition. Assumes nothing.
use Rattle.std.proofs.Common.{◌≡◌, ◌+◌, ◌*◌, length, take}
use Rattle.blake2b.specs.Blake2b.{vector, word_at}
use Rattle.blake2b.proofs.words.Given as goal

abbrev pub invariant-loop-i : goal.invariant-loop-i
invariant-loop-i l = (length l.m ≡ 16) × (take l.i l.m ≡ vector l.i (λ j. word_at l.b (0 + j * 8)))
