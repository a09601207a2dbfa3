-- The lengths of a block and of its parts. Assumes nothing.
use mathlib.Core.Path.{◌≡◌, ◌∙◌}
use mathlib.Core.List.{List}
use Prim.Native.Nat.{ℕ, ◌+◌, ◌≤◌}
use native.Mathlib.Omega.{arith}
use lib.ListN.{length, length-append, length-replicate}
use Rattle.wire.specs.Number.{big_endian}
use Rattle.wire.proofs.Digits.{length_digits}
use Rattle.crc.specs.Crc.{crc32}
use Rattle.model.specs.Book.{Slot, data_of}
use Rattle.block.specs.Block.{state_of, sealed, page_body, page_block}

pub length_body : (id : List ℕ) (i s : ℕ) (d : List ℕ) → length id ≡ 8 → length d ≤ 480 → length (page_body id i s d) ≡ 508
unfolding page_body
length_body id i s d h k = simp (length-append, length-replicate, length_digits) (omega arith)

pub length_sealed : (body : List ℕ) → length (sealed body) ≡ length body + 4
unfolding sealed
length_sealed body = length-append body (big_endian 4 (crc32 body)) ∙ omega (arith, length_digits 256 4 (crc32 body))

pub length_whole : (id : List ℕ) (i s : ℕ) (d : List ℕ) → length id ≡ 8 → length d ≤ 480 → length (sealed (page_body id i s d)) ≡ 512
length_whole id i s d h k = length_sealed (page_body id i s d) ∙ omega (arith, length_body id i s d h k)

-- a block has 512 bytes
pub length_block : (id : List ℕ) (i : ℕ) (p : Slot) → length id ≡ 8 → length (data_of p) ≤ 480 → length (page_block id i p) ≡ 512
unfolding page_block
length_block id i p h k = length_whole id i (state_of p) (data_of p) h k
