-- The two loops over the page blocks: every page made absent, and every page joined.
-- Assumes nothing.
use mathlib.Core.Path.{◌≡◌, refl, sym, ap, ap₂, ◌∙◌, subst}
use mathlib.Core.List.{List, [], ◌∷◌}
use Prim.Native.Nat.{ℕ, zero, suc, ◌+◌, ◌*◌, ◌≤◌, ◌<◌}
use native.Mathlib.Omega.{arith}
use native.Mathlib.Numerals.{add-one}
use lib.ListN.{length, get_or, set, replicate}
use Rattle.model.specs.Book.{Slot, absent, data_of, disagree, no_pages}
use Rattle.model.specs.Take.{join_slot, join_slots, join_book}
use Rattle.model.proofs.Valid.{Short, short_none, data_join}
use Rattle.model.proofs.Changes.{join_one_total}
use Rattle.model.proofs.UpTo.{up_to, up_to_none, up_to_all, up_to_get, up_to_set}
use Rattle.block.specs.Block.{with_page}
use Rattle.book.specs.Head.{head_for, with_head, read_head}
use Rattle.book.specs.Encode.{encode}
use Rattle.book.specs.Read.{read_pages, read_book}
use Rattle.book.proofs.Decode.{length_read, book_1}
use Rattle.collection.specs.Private.{OneTotal, BlockOf, slot_at}
use Rattle.collection.specs.Built.{Of}
use Rattle.collection.proofs.Laid.{Laid, laid_ok, laid_slot, laid_set, laid_head, laid_disagree, laid_collecting, of_laid}

-- ---- the first k slots absent, and the rest as it was

unfoldable pub cleared : ℕ → List Slot → List Slot
cleared zero ss = ss
cleared (suc k) [] = []
cleared (suc k) (x ∷ ss) = absent ∷ cleared k ss

clear_suc : (k : ℕ) (ss : List Slot) → set (cleared k ss) k absent ≡ cleared (suc k) ss
unfolding cleared
clear_suc zero [] = refl
clear_suc zero (x ∷ ss) = refl
clear_suc (suc k) [] = refl
clear_suc (suc k) (x ∷ ss) = ap (λ (r : List Slot). absent ∷ r) (clear_suc k ss)

clear_all : (ss : List Slot) → cleared (length ss) ss ≡ replicate (length ss) absent
unfolding cleared
clear_all [] = refl
clear_all (x ∷ ss) = ap (λ (r : List Slot). absent ∷ r) (clear_all ss)

-- c was c₀, and its first k pages were made absent
pub record Clearing (id c₀ : List ℕ) (k : ℕ) (c : List ℕ) : Type 0 where
  pub most : k ≤ 96
  pub size : length c ≡ length c₀
  pub laid : Laid id (read_head c₀).state (read_head c₀).total (cleared k (read_pages 0 96 c₀)) c

short_absent : Short (data_of absent)
unfolding data_of
short_absent = short_none

module _ (id c₀ : List ℕ) where
  pub clear_start : Of id c₀ → Clearing id c₀ 0 c₀
  unfolding cleared
  clear_start o = record { most = omega arith; size = refl; laid = of_laid id c₀ o }

  module _ (k at : ℕ) (c : List ℕ) (w : Clearing id c₀ k c) (h : k < 96) (place : at ≡ 512 + 512 * k) where
    pub clear_block : BlockOf id at k c
    clear_block = laid_ok w.laid k at h place

    pub clear_on : (x : List ℕ) → length x ≡ length c → x ≡ with_page at id k absent c → Clearing id c₀ (k + 1) x
    clear_on x l e =
        record {
          most = omega arith;
          size = l ∙ w.size;
          laid = rw (add-one k, ← clear_suc k (read_pages 0 96 c₀)) (laid_set w.laid k at h place absent x short_absent e);
        }

  pub clear_end : (k : ℕ) (c x : List ℕ) → 96 ≤ k → Clearing id c₀ k c → x ≡ with_head (head_for id 2 0) c → x ≡ encode id disagree
  unfolding no_pages
  clear_end k c x h w e =
      let n : k ≡ length (read_pages 0 96 c₀) = omega (arith, w.most, length_read 0 96 c₀) in
      let z : cleared k (read_pages 0 96 c₀) ≡ replicate 96 absent =
      ap (λ (m : ℕ). cleared m (read_pages 0 96 c₀)) n ∙ clear_all (read_pages 0 96 c₀) ∙ ap (λ (m : ℕ). replicate m absent) (length_read 0 96 c₀) in
      laid_disagree (subst (λ (ss : List Slot). Laid id 2 0 ss x) z (laid_head w.laid 2 0 x e))

-- ---- the first k slots joined with those of o

-- c was c₀, and its first k pages were joined
pub record Joining (id o c₀ : List ℕ) (k : ℕ) (c : List ℕ) : Type 0 where
  pub most : k ≤ 96
  pub size : length c ≡ length c₀
  pub laid : Laid id (read_head c₀).state (read_head c₀).total (up_to k (read_pages 0 96 c₀) (read_pages 0 96 o)) c

module _ (id o c₀ : List ℕ) where
  pub join_start : Of id c₀ → Joining id o c₀ 0 c₀
  join_start q = record { most = omega arith; size = refl; laid = rw (up_to_none (read_pages 0 96 c₀) (read_pages 0 96 o)) (of_laid id c₀ q) }

  module _ (k at : ℕ) (c : List ℕ) (w : Joining id o c₀ k c) (h : k < 96) (place : at ≡ 512 + 512 * k) where
    pub join_block : BlockOf id at k c
    join_block = laid_ok w.laid k at h place

    pub join_on : (x : List ℕ) → Of id c₀ → Of id o → length x ≡ length c → x ≡ with_page at id k (join_slot (slot_at at c) (slot_at at o)) c → Joining id o c₀ (k + 1) x
    join_on x q r l e =
        let ss : List Slot = read_pages 0 96 c₀ in
        let us : List Slot = read_pages 0 96 o in
        let ours = of_laid id c₀ q in
        let theirs = of_laid id o r in
        let y : slot_at at c ≡ get_or ss k absent = laid_slot w.laid k at h place ∙ up_to_get k ss us in
        let z : slot_at at o ≡ get_or us k absent = laid_slot theirs k at h place in
        let p : Slot = join_slot (get_or ss k absent) (get_or us k absent) in
        let f : x ≡ with_page at id k p c = e ∙ ap (λ (v : Slot). with_page at id k v c) (ap₂ join_slot y z) in
        let g : Short (data_of p) = data_join Short short_none (get_or ss k absent) (get_or us k absent) (ours.short k) (theirs.short k) in
        record {
          most = omega arith;
          size = l ∙ w.size;
          laid =
              subst (λ (vs : List Slot). Laid id (read_head c₀).state (read_head c₀).total vs x)
              (up_to_set k ss us (ours.slots ∙ sym theirs.slots) (omega (arith, ours.slots)))
              (laid_set w.laid k at h place p x g f);
        }

  pub join_end : (k : ℕ) (c : List ℕ) → 96 ≤ k → Joining id o c₀ k c → OneTotal c₀ o → c ≡ encode id (join_book (read_book c₀) (read_book o))
  join_end k c h w (a, b, e) =
      let ss : List Slot = read_pages 0 96 c₀ in
      let us : List Slot = read_pages 0 96 o in
      let t : ℕ = (read_head c₀).total in
      let n : k ≡ length ss = omega (arith, w.most, length_read 0 96 c₀) in
      let z : up_to k ss us ≡ join_slots ss us = ap (λ (m : ℕ). up_to m ss us) n ∙ up_to_all ss us in
      let l : Laid id 1 t (join_slots ss us) c = rw (← a, ← z) w.laid in
      laid_collecting l ∙ ap (encode id) (sym (ap₂ join_book (book_1 c₀ a) (book_1 o b) ∙ join_one_total t (read_head o).total ss us e))
