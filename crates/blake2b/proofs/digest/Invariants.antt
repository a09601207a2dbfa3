-- `blake2b::digest` meets its contract. The loop's invariant: the bytes of the first i words are
-- written. Assumes nothing.
use Rattle.std.proofs.Common.{◌≡◌, ◌*◌, length, take}
use Rattle.blake2b.specs.Blake2b.{bytes}
use Rattle.blake2b.proofs.digest.Given as goal

abbrev pub invariant-loop-i : goal.invariant-loop-i
invariant-loop-i l = (length l.d ≡ 32) × (take (8 * l.i) l.d ≡ bytes (take l.i (take 4 l.fn.h)))
