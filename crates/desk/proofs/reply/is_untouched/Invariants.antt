-- The answer is that of the bytes that are left.
use Rattle.std.proofs.Common.{◌≡◌, length, replicate, drop}
use Rattle.lend.specs.Same.{same}
use Rattle.desk.proofs.reply.is_untouched.Given as goal

abbrev pub invariant-loop-b : goal.invariant-loop-b
invariant-loop-b l = same l.s (replicate (length l.s) 0xA5) ≡ same (drop l.b-index l.s) (drop l.b-index (replicate (length l.s) 0xA5))
