-- The 512 bytes of a page block: section 8 of docs/RULES.md.
use Rattle.std.specs.Prelude.{ℕ, ◌+◌, ◌-◌, Bool, ◌&&◌, List, [], ◌∷◌, ◌++◌, eqb, leb, length, take, drop, replicate}
use Rattle.wire.specs.Answer.{choose}
use Rattle.wire.specs.Number.{big_endian}
use Rattle.wire.specs.Over.{over}
use Rattle.wire.specs.Sizes.{most_data, id_size, summed_size}
use Rattle.crc.specs.Crc.{crc32}
use Rattle.model.specs.Book.{Slot, absent, held, disputed, data_of}
use Rattle.block.specs.declared.PageState.{PageState}
use Rattle.block.specs.declared.PageState.TheVariants as page

-- the number of a state (R8.4)
unfoldable pub state_of : Slot → ℕ
state_of absent = 0
state_of (held d) = 1
state_of disputed = 2

-- the same of a state alone
abbrev pub state_number : PageState → ℕ
state_number page.Absent = 0
state_number page.Held = 1
state_number page.Disputed = 2

-- a block: its 508 bytes, and their checksum behind them, the highest byte first (R8.2)
unfoldable pub sealed : List ℕ → List ℕ
sealed body = body ++ big_endian 4 (crc32 body)

-- the mark 50 hex, the index, the state, a zero, the id of the document, how long the data are (two
-- bytes, the higher first), the data (R8.4), and zeros up to the checksum, whatever of the 480
-- bytes the data leave (R8.5)
unfoldable pub page_body : (id : List ℕ) (i s : ℕ) (d : List ℕ) → List ℕ
page_body id i s d = (0x50 ∷ i ∷ s ∷ 0 ∷ []) ++ id ++ big_endian 2 (length d) ++ d ++ replicate (summed_size - 14 - length d) 0

-- a slot that is not held has no data: its length is 0, and zeros stand in their place (R8.5)
unfoldable pub page_block : List ℕ → ℕ → Slot → List ℕ
page_block id i p = sealed (page_body id i (state_of p) (data_of p))

-- there is such a block: an id of 8 bytes (R3.8), and data of at most 480 (R3.2)
unfoldable pub has_block : List ℕ → Slot → Bool
has_block id p = eqb (length id) id_size && leb (length (data_of p)) most_data

-- a buffer with the block of a slot from index at on; as it was where there is no such block, or no
-- room for it
unfoldable pub with_page : (at : ℕ) (id : List ℕ) (i : ℕ) (p : Slot) (out : List ℕ) → List ℕ
with_page at id i p out = choose (has_block id p) (over at (page_block id i p) out) out

-- a buffer with the checksum of the 508 bytes from index at on behind them (R8.2); as it was where
-- there is no room for the block
unfoldable pub with_sum : ℕ → List ℕ → List ℕ
with_sum at out = over (at + summed_size) (big_endian 4 (crc32 (take summed_size (drop at out)))) out
