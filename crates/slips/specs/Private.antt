-- What the parts of the code answer, for the contracts of private functions: nothing here is
-- promised to a caller.
use Rattle.std.specs.Prelude.{ℕ, ◌+◌, List, [], ltb, length}
use Rattle.wire.specs.Answer.{choose}
use Rattle.slips.specs.Standing.{lines_from}

-- the lines behind the one that ends at this index
unfoldable pub behind : List ℕ → ℕ → List (List ℕ)
behind s end = choose (ltb end (length s)) (lines_from s (end + 1)) []
