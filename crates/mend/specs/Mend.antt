-- Mend, for a damaged file: R9.11.
use Rattle.std.specs.Prelude.{ℕ, zero, suc, ◌+◌, ◌<◌, ◌≡◌, true, false, List, [], ◌++◌, take}
use Rattle.wire.specs.Answer.{choose, Answer, done, refused, then, Change, leaves}
pub use Rattle.wire.specs.Reading.{told}
use Rattle.wire.specs.Sizes.{block_size, most_pages}
use Rattle.model.specs.Book.{absent, held}
use Rattle.model.specs.Complete.{Counted}
use Rattle.block.specs.Block.{page_block}
use Rattle.block.specs.Read.{read_slot}
use Rattle.book.specs.Head.{Head, read_head, has_head, head_in}
use Rattle.book.specs.Read.{id_of, page_at, ok_at, ok_book}

-- the block b of index k under a head: untouched where it is well formed, else that of an absent
-- page (R9.11)
unfoldable pub mended_block : Head → ℕ → List ℕ → List ℕ
mended_block h k b = choose (ok_at h k b) b (page_block h.id k absent)

-- n page blocks, from index k on
unfoldable pub mended_pages : (h : Head) (k n : ℕ) (c : List ℕ) → List ℕ
mended_pages h k zero c = []
mended_pages h k (suc n) c = mended_block h k (page_at k c) ++ mended_pages h (suc k) n c

-- how many of them are not well formed: what mend answers (R9.11)
unfoldable pub bad_pages : (h : Head) (k n : ℕ) (c : List ℕ) → ℕ
bad_pages h k zero c = 0
bad_pages h k (suc n) c = choose (ok_at h k (page_at k c)) 0 1 + bad_pages h (suc k) n c

-- under a head that is not refused with 13, the page blocks are mended and counted (R9.11)
unfoldable pub mending : List ℕ → Change ℕ
mending c = then (head_in c) (λ h. leaves (take block_size c ++ mended_pages h 0 most_pages c) (bad_pages h 0 most_pages c))

-- ---- what a mend says, block by block

-- the page block of index k is not well formed under the head
abbrev pub BadAt : List ℕ → ℕ → Type 0
BadAt c k = ok_at (read_head c) k (page_at k c) ≡ false

-- of the answer a, and of the bytes x that were c: nothing but the blocks that were bad is changed,
-- and their number is the answer (R9.11). A page that was offered may be forgotten in x, so nothing
-- is said here of the set of pages
pub record Mends (c x : List ℕ) (a : Answer ℕ) : Type 0 where
  pub refuses : has_head c ≡ false → (a ≡ refused 13) × (x ≡ c)
  pub counts : has_head c ≡ true → (n : ℕ) × Counted (BadAt c) most_pages n × (a ≡ done n)
  pub head : has_head c ≡ true → take block_size x ≡ take block_size c
  pub empties : has_head c ≡ true → (k : ℕ) → k < most_pages → BadAt c k → page_at k x ≡ page_block (id_of c) k absent
  pub keeps : has_head c ≡ true → (k : ℕ) → k < most_pages → (BadAt c k → ⊥) → page_at k x ≡ page_at k c
  -- a head may then stand over absent pages alone (R8.8)
  pub leaves : has_head c ≡ true → ok_book x ≡ true
  -- data that it holds stood in a block that was well formed, and was not changed (R9.11)
  pub nothing_new : has_head c ≡ true → (k : ℕ) (d : List ℕ) → k < most_pages → read_slot (page_at k x) ≡ held d → (BadAt c k → ⊥) × (read_slot (page_at k c) ≡ held d)
