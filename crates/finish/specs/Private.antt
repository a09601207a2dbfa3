-- What the private functions answer: nothing here is promised to a caller.
use Rattle.std.specs.Prelude.{◌≡◌, List, ℕ, ◌-◌, ◌≤◌, length, take, drop}
use Rattle.wire.specs.Over.{over}
use Rattle.model.specs.Book.{data_of}
use Rattle.model.specs.Finish.{joined}
use Rattle.block.specs.Read.{read_slot}
use Rattle.book.specs.Read.{page_at, read_pages}

-- the data of the page of index k
abbrev pub data_at : List ℕ → ℕ → List ℕ
data_at c k = data_of (read_slot (page_at k c))

-- the data of the pages below t from the cursor on: page k, of which i bytes are passed
unfoldable pub behind : (c : List ℕ) (t k i : ℕ) → List ℕ
behind c t k i = drop i (joined (read_pages k (t - k) c))

-- the data from the cursor k, i on were put in front of the block b as far as it has room, which
-- made x; the cursor k', i' stands behind them
pub record Pulls (c : List ℕ) (t k i : ℕ) (b x : List ℕ) (k' i' : ℕ) : Type 0 where
  pub inside : i' ≤ length (data_at c k')
  pub stands : x ≡ over 0 (take 128 (behind c t k i)) b
  pub left : behind c t k' i' ≡ drop 128 (behind c t k i)
