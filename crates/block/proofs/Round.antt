-- A page block is read back as it was written, so the well-formed blocks are those of slots.
-- Assumes nothing.
use mathlib.Core.Path.{◌≡◌, refl, sym, ap, ◌∙◌}
use mathlib.Core.Bool.{true}
use mathlib.Core.List.{List, [], ◌∷◌, ◌++◌, append_assoc}
use Prim.Native.Nat.{ℕ, ◌-◌, ◌/◌, ◌%◌, ◌≤◌}
use native.Mathlib.Omega.{arith}
use borrow.Author.Tests.{eq-eqb, eqb-true}
use lib.Dec.{eqb}
use lib.ListN.{length, get_or, take, drop, replicate}
use lib.Seq.{take_at, drop_at, drop-drop, get_or-drop, take-take}
use Rattle.wire.specs.Number.{digits, big_endian}
use Rattle.wire.proofs.Cases.{both_hold}
use Rattle.lend.specs.Same.{same}
use Rattle.lend.proofs.Sames.{same_eq, same_refl}
use Rattle.crc.specs.Crc.{crc32}
use Rattle.model.specs.Book.{Slot, absent, held, disputed, data_of}
use Rattle.block.specs.Block.{state_of, sealed, page_body, page_block}
use Rattle.block.specs.Read.{length_in, slot_for, read_slot, ok_page}
use Rattle.block.proofs.Lengths.{length_block}
use Rattle.block.proofs.Reading.{read_fits}

-- the bytes behind the data
tail_of : List ℕ → ℕ → ℕ → List ℕ → List ℕ
tail_of id i s d = replicate (494 - length d) 0 ++ big_endian 4 (crc32 (page_body id i s d))

module _ (id : List ℕ) (i s : ℕ) (d : List ℕ) where
  block : List ℕ
  block = sealed (page_body id i s d)

  regroup : (f a t : List ℕ) → f ++ id ++ a ++ d ++ replicate (494 - length d) 0 ++ t ≡ f ++ (id ++ (a ++ (d ++ (replicate (494 - length d) 0 ++ t))))
  regroup f a t = simp append_assoc

  shape : block ≡ (0x50 ∷ i ∷ s ∷ 0 ∷ []) ++ (id ++ (big_endian 2 (length d) ++ (d ++ tail_of id i s d)))
  unfolding block sealed tail_of page_body
  shape = regroup (0x50 ∷ i ∷ s ∷ 0 ∷ []) (big_endian 2 (length d)) (big_endian 4 (crc32 (page_body id i s d)))

  read_state : get_or block 2 0 ≡ s
  read_state = rw shape

  module _ (eight : length id ≡ 8) where
    after_id : drop 12 block ≡ big_endian 2 (length d) ++ (d ++ tail_of id i s d)
    after_id = rw shape (drop_at id (big_endian 2 (length d) ++ (d ++ tail_of id i s d)) 8 eight)

    after_length : drop 14 block ≡ d ++ tail_of id i s d
    unfolding digits
    after_length = sym (drop-drop 2 12 block) ∙ ap (drop 2) after_id

    module _ (small : length d ≤ 480) where
      read_length : length_in block ≡ length d
      unfolding length_in digits
      read_length =
          let a : get_or block 12 0 ≡ length d / 256 % 256 = sym (get_or-drop 12 block 0 0) ∙ ap (λ (l : List ℕ). get_or l 0 0) after_id in
          let b : get_or block 13 0 ≡ length d % 256 = sym (get_or-drop 12 block 1 0) ∙ ap (λ (l : List ℕ). get_or l 1 0) after_id in
          omega arith

      read_data : take (length_in block) (take 480 (drop 14 block)) ≡ d
      read_data =
          rw (read_length, after_length, take-take (length d) 480 (d ++ tail_of id i s d) small)
          (take_at d (tail_of id i s d) (length d) refl)

-- ---- for reuse: id of 8 bytes, data of at most 480

module _ (id : List ℕ) (i : ℕ) (eight : length id ≡ 8) where
  -- a block says what it was made of
  pub slot_page : (p : Slot) → length (data_of p) ≤ 480 → read_slot (page_block id i p) ≡ p
  unfolding read_slot slot_for page_block state_of data_of block
  slot_page absent h = rw (read_state id i 0 [])
  slot_page (held d) h = rw (read_state id i 1 d, read_data id i 1 d eight h)
  slot_page disputed h = rw (read_state id i 2 [])

  -- the block of a slot is well formed
  pub ok_page_lem : (p : Slot) → length (data_of p) ≤ 480 → ok_page id i (page_block id i p) ≡ true
  unfolding ok_page
  ok_page_lem p h = rw (eq-eqb (length id) 8 eight, slot_page p h, same_refl (page_block id i p))

module _ (id : List ℕ) (i : ℕ) (b : List ℕ) (ok : ok_page id i b ≡ true) where
  pub page_id : length id ≡ 8
  unfolding ok_page
  page_id = eqb-true (length id) 8 (both_hold (eqb (length id) 8) (same b (page_block id i (read_slot b))) ok).0

  -- a well-formed block is the block of what it says
  pub page_ok : b ≡ page_block id i (read_slot b)
  unfolding ok_page
  page_ok = same_eq b (page_block id i (read_slot b)) (both_hold (eqb (length id) 8) (same b (page_block id i (read_slot b))) ok).1

  pub page_length : length b ≡ 512
  page_length = ap length page_ok ∙ length_block id i (read_slot b) page_id (read_fits b)
