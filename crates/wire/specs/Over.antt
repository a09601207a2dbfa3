-- The one notion of a write into a lent buffer.
use Rattle.std.specs.Prelude.{ℕ, ◌+◌, List, ◌++◌, leb, length, take, drop}
use Rattle.wire.specs.Answer.{choose}

-- the buffer l with the bytes bs from index at on, and before and behind them as it was (R1.2);
-- where they do not fit, l as it was
unfoldable pub over : ℕ → List ℕ → List ℕ → List ℕ
over at bs l = choose (leb (at + length bs) (length l)) (take at l ++ bs ++ drop (at + length bs) l) l
