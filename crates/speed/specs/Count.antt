-- The one number that the text functions answer to C: the bytes that stand in the output
-- afterwards.
use Rattle.std.specs.Prelude.{ℕ}
use Rattle.wire.specs.Answer.{Answer, done, refused_at}

-- how many bytes a writer wrote: none where it refused
abbrev pub count : Answer ℕ → ℕ
count (done n) = n
count (refused_at e place) = 0
