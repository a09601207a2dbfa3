-- Bytes laid one after another in a room: what the private functions of the crates above answer
-- that put a line together. Nothing here is promised to a caller.
use Rattle.std.specs.Prelude.{◌≡◌, List, ℕ, ◌+◌, ◌≤◌, length}
use Rattle.wire.specs.Over.{over}

-- bytes, at most so many, were written from index at on up to index r: l became x
pub record Laid (at most : ℕ) (bs l x : List ℕ) (r : ℕ) : Type 0 where
  pub next : r ≡ at + length bs
  pub short : length bs ≤ most
  pub stands : x ≡ over at bs l
