-- The head block: section 8 of docs/RULES.md.
use Rattle.std.specs.Prelude.{ℕ, ◌-◌, Bool, ◌&&◌, List, [], ◌∷◌, ◌++◌, eqb, leb, length, take, drop, get_or, replicate}
use Rattle.wire.specs.Answer.{choose, Answer, done, demand}
use Rattle.wire.specs.Ascii.{ascii}
use Rattle.wire.specs.Over.{over}
use Rattle.wire.specs.Sizes.{most_pages, id_size, summed_size, collection_size}
use Rattle.lend.specs.Same.{same}
use Rattle.block.specs.Block.{sealed}
use Rattle.block.specs.Read.{block_at}

-- what a head says: a part that is added to it is added here
pub record Head : Type 0 where
  pub id : List ℕ
  pub state : ℕ
  pub total : ℕ

abbrev pub head_for : List ℕ → ℕ → ℕ → Head
head_for id s t = record { id = id; state = s; total = t }

-- the magic, version 1, the state, the id, the total in one byte, and zeros up to the checksum
-- (R8.3)
unfoldable pub head_body : Head → List ℕ
head_body h = (ascii "IM" ++ (1 ∷ h.state ∷ [])) ++ h.id ++ (h.total ∷ []) ++ replicate (summed_size - 13) 0

unfoldable pub head_block : Head → List ℕ
head_block h = sealed (head_body h)

-- a buffer with this head block in front (R8.3); as it was where the id has not 8 bytes, or the
-- block has no room
unfoldable pub with_head : Head → List ℕ → List ℕ
with_head h out = choose (eqb (length h.id) id_size) (over 0 (head_block h) out) out

-- of any bytes: what the head says (R8.3)
unfoldable pub read_head : List ℕ → Head
read_head c = head_for (take id_size (drop 4 c)) (get_or c 3 0) (get_or c 12 0)

-- a total goes with state 1, collecting, alone: 0, empty, and 2, totals that disagree, have none
-- (R8.3)
unfoldable pub ok_total : ℕ → ℕ → Bool
ok_total s t = choose (eqb s 1) (leb 1 t && leb t most_pages) (leb s 2 && eqb t 0)

-- the first block of c is the head block of what it says (R8.7), and that is allowed
unfoldable pub ok_head : List ℕ → Bool
ok_head c = ok_total (read_head c).state (read_head c).total && same (block_at 0 c) (head_block (read_head c))

-- the size is right (R8.1), and the head is not bad
unfoldable pub has_head : List ℕ → Bool
has_head c = eqb (length c) collection_size && ok_head c

-- what the head of a file says, or its refusal, 13 (R8.7): nothing else judges a head
unfoldable pub head_in : List ℕ → Answer Head
head_in c = demand (has_head c) 13 (done (read_head c))
