-- What a page block says, and when it is well formed: section 8 of docs/RULES.md.
use Rattle.std.specs.Prelude.{ℕ, ◌+◌, ◌*◌, Bool, ◌&&◌, List, [], eqb, leb, length, take, drop, get_or}
use Rattle.wire.specs.Answer.{choose}
use Rattle.wire.specs.Sizes.{most_data, id_size, block_size}
use Rattle.lend.specs.Same.{same}
use Rattle.model.specs.Book.{Slot, absent, held, disputed, data_of}
use Rattle.model.specs.Finish.{is_held}
use Rattle.block.specs.Block.{page_block}

-- the block from index at on; no bytes where fewer than 512 stand there
unfoldable pub block_at : ℕ → List ℕ → List ℕ
block_at at c = choose (leb (at + block_size) (length c)) (take block_size (drop at c)) []

-- how long the data are said to be (R8.4)
unfoldable pub length_in : List ℕ → ℕ
length_in b = get_or b 12 0 * 256 + get_or b 13 0

unfoldable pub slot_for : ℕ → List ℕ → Slot
slot_for s d = choose (eqb s 0) absent (choose (eqb s 1) (held d) disputed)

-- of any bytes: what the state, and the length and the 480 bytes of data, say
unfoldable pub read_slot : List ℕ → Slot
read_slot b = slot_for (get_or b 2 0) (take (length_in b) (take most_data (drop 14 b)))

-- well formed: b is, byte for byte, the block of what b says (R8.7)
unfoldable pub ok_page : List ℕ → ℕ → List ℕ → Bool
ok_page id i b = eqb (length id) id_size && same b (page_block id i (read_slot b))

-- whether a slot is held, with the data d: no data is data too, and not absence (R9.9)
unfoldable pub holding : Slot → List ℕ → Bool
holding p d = is_held p && same (data_of p) d
