-- What the writers leave of a collection's bytes: a slot set, a head changed, all pages gone.
-- Assumes nothing.
use mathlib.Core.Path.{◌≡◌, refl, sym, ap, ◌∙◌}
use mathlib.Core.Bool.{true}
use mathlib.Core.List.{List, ◌++◌}
use Prim.Native.Nat.{ℕ, ◌+◌, ◌*◌, ◌≤◌, ◌<◌}
use native.Mathlib.Omega.{arith}
use lib.ListN.{length, set, length-append}
use Rattle.wire.specs.Over.{over}
use Rattle.wire.proofs.Overs.{over_append, over_all, over_same, over_front, over_skip}
use Rattle.model.specs.Book.{Slot, data_of, empty, no_pages, total_of, slots_of}
use Rattle.block.specs.Block.{page_block, with_page}
use Rattle.block.specs.Read.{block_at, read_slot, ok_page}
use Rattle.block.proofs.Writing.{with_page_lem}
use Rattle.block.proofs.Reading.{block_here, block_length, read_fits}
use Rattle.block.proofs.Round.{page_ok, page_id}
use Rattle.book.specs.Head.{Head, head_for, head_block, with_head}
use Rattle.book.specs.Encode.{state_no, head_of, pages, encode, with_blank}
use Rattle.model.proofs.Slots.{length_none}
use Rattle.model.proofs.Valid.{EachData, Short, short_none, data_none}
use Rattle.book.proofs.Heads.{length_headblock, with_head_lem}
use Rattle.book.proofs.Pages.{length_pages, pages_set, with_blank_lem}

-- a well-formed block written anew from what it says
pub block_again : (id : List ℕ) (i at : ℕ) (c : List ℕ) → at + 512 ≤ length c → ok_page id i (block_at at c) ≡ true → with_page at id i (read_slot (block_at at c)) c ≡ c
block_again id i at c room ok =
    let b : List ℕ = block_at at c in
    let l : length b ≡ 512 = block_length at c room in
    with_page_lem at id i (read_slot b) c (page_id id i b ok) (read_fits b)
    ∙ ap (λ (x : List ℕ). over at x c) (sym (page_ok id i b ok))
    ∙ over_same at b c (omega arith) (rw l (sym (block_here at c room)))

-- one head for another
pub head_anew : (g h : Head) (r : List ℕ) → length g.id ≡ 8 → length h.id ≡ 8 → with_head g (head_block h ++ r) ≡ head_block g ++ r
head_anew g h r k l =
    with_head_lem g (head_block h ++ r) k ∙ over_front (head_block h) (head_block g) r (length_headblock g k ∙ sym (length_headblock h l))

module _ (id : List ℕ) (eight : length id ≡ 8) where
  -- page i written anew behind any head
  pub page_anew : (h : Head) (i at : ℕ) (ss : List Slot) (p : Slot) → length h.id ≡ 8 → i < length ss → EachData Short ss → Short (data_of p) → at ≡ 512 + 512 * i
      → with_page at id i p (head_block h ++ pages id 0 ss) ≡ head_block h ++ pages id 0 (set ss i p)
  page_anew h i at ss p l k short one place =
      with_page_lem at id i p (head_block h ++ pages id 0 ss) eight one
      ∙ over_skip at (512 * i) (head_block h) (page_block id i p) (pages id 0 ss) (omega (arith, length_headblock h l))
      ∙ ap (λ (r : List ℕ). head_block h ++ r) (pages_set id eight 0 i (512 * i) i ss p k short one refl (omega arith))

  -- a head without pages, written over any bytes of a collection's size
  wiped : (h : Head) (c : List ℕ) → length h.id ≡ 8 → length c ≡ 49664 → with_blank id (with_head h c) ≡ head_block h ++ pages id 0 no_pages
  wiped h c l size =
      let n : length (head_block h) ≡ 512 = length_headblock h l in
      let m : length (pages id 0 no_pages) ≡ 49152 = length_pages id eight 0 no_pages (data_none Short short_none) ∙ omega (arith, length_none) in
      with_blank_lem id (with_head h c) eight
      ∙ ap (over 512 (pages id 0 no_pages)) (with_head_lem h c l)
      ∙ over_append 0 (head_block h) (pages id 0 no_pages) c 512 (omega arith) (omega arith)
      ∙ over_all (head_block h ++ pages id 0 no_pages) c (length-append (head_block h) (pages id 0 no_pages) ∙ omega arith)

  pub made_empty : (c : List ℕ) → length c ≡ 49664 → with_blank id (with_head (head_for id 0 0) c) ≡ encode id empty
  unfolding encode head_of state_no total_of slots_of
  made_empty c size = wiped (head_for id 0 0) c eight size
