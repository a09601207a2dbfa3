-- The parts that a frame may have: section 6 of docs/RULES.md. What the reader accepts is exactly
-- the layout of such parts.
use Rattle.std.specs.Prelude.{ℕ, ◌<◌, ◌≤◌, ◌≡◌, ◌⊎◌, List, length}
use Rattle.wire.specs.Sizes.{most_pages, most_data, id_size}

-- a main, a key or an auth frame (R6.2)
abbrev pub Kind : ℕ → Type 0
Kind kind = (kind ≡ 0x44) ⊎ ((kind ≡ 0x4B) ⊎ (kind ≡ 0x41))

-- a known type (R6.2), an id of its size (R3.8), a place in the total (R6.6), no more than R6.7
-- allows
pub record Allowed (kind : ℕ) (id : List ℕ) (index total : ℕ) (contents : List ℕ) : Type 0 where
  pub type : Kind kind
  pub eight : length id ≡ id_size
  pub below : index < total
  pub pages : total ≤ most_pages
  pub single : (kind ≡ 0x44) ⊎ (total ≡ 1)
  pub short : length contents ≤ most_data
