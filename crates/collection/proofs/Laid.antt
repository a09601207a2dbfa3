-- A buffer laid out as a collection, a head block and the blocks of 96 slots: what stands there,
-- and what a write of one block leaves. Assumes nothing.
use mathlib.Core.Path.{◌≡◌, refl, sym, ap, ap₂, ◌∙◌}
use mathlib.Core.List.{List, ◌++◌}
use Prim.Native.Nat.{ℕ, ◌+◌, ◌*◌, ◌<◌}
use native.Mathlib.Omega.{arith}
use lib.ListN.{length, take, drop, get_or, set, length-append, length-set, take-append-drop}
use lib.Seq.{drop-append-add}
use Rattle.model.specs.Book.{Slot, absent, data_of, collecting, disagree, no_pages, total_of, slots_of}
use Rattle.model.proofs.Valid.{EachData, Short, short_none, data_set}
use Rattle.block.specs.Block.{page_block, with_page}
use Rattle.block.specs.Read.{block_at, read_slot}
use Rattle.block.proofs.Reading.{block_here}
use Rattle.block.proofs.Round.{slot_page, ok_page_lem}
use Rattle.book.specs.Head.{head_for, head_block, with_head, read_head}
use Rattle.book.specs.Encode.{state_no, head_of, pages, encode}
use Rattle.book.specs.Read.{read_pages}
use Rattle.book.proofs.Heads.{length_headblock}
use Rattle.book.proofs.Pages.{length_pages, pages_at}
use Rattle.book.proofs.Changes.{head_anew, page_anew}
use Rattle.book.proofs.Decode.{length_read, read_short, pages_are, head_stands, ok_head_lem, ok_pages_lem, ok_size, ok_id}
use Rattle.collection.specs.Private.{BlockOf, slot_at}
use Rattle.collection.specs.Built.{Of}

-- c is the head block of a state and a total, and the blocks of the slots ss
pub record Laid (id : List ℕ) (s t : ℕ) (ss : List Slot) (c : List ℕ) : Type 0 where
  pub eight : length id ≡ 8
  pub slots : length ss ≡ 96
  pub short : EachData Short ss
  pub bytes : c ≡ head_block (head_for id s t) ++ pages id 0 ss

module _ {id : List ℕ} {s t : ℕ} {ss : List Slot} {c : List ℕ} (l : Laid id s t ss c) where
  head_long : length (head_block (head_for id s t)) ≡ 512
  head_long = length_headblock (head_for id s t) l.eight

  pub laid_size : length c ≡ 49664
  laid_size =
      ap length l.bytes
      ∙ length-append (head_block (head_for id s t)) (pages id 0 ss)
      ∙ omega (arith, head_long, length_pages id l.eight 0 ss l.short, l.slots)

  module _ (k at : ℕ) (h : k < 96) (place : at ≡ 512 + 512 * k) where
    -- block k is that of slot k
    pub laid_block : block_at at c ≡ page_block id k (get_or ss k absent)
    laid_block =
        let e : at ≡ length (head_block (head_for id s t)) + 512 * k = omega (arith, head_long) in
        block_here at c (omega (arith, laid_size))
        ∙ ap (λ (r : List ℕ). take 512 (drop at r)) l.bytes
        ∙ ap (λ (n : ℕ). take 512 (drop n (head_block (head_for id s t) ++ pages id 0 ss))) e
        ∙ ap (take 512) (drop-append-add (head_block (head_for id s t)) (pages id 0 ss) (512 * k))
        ∙ pages_at id l.eight 0 k (512 * k) k ss (omega (arith, l.slots)) l.short refl (omega arith)

    pub laid_slot : slot_at at c ≡ get_or ss k absent
    laid_slot = ap read_slot laid_block ∙ slot_page id k l.eight (get_or ss k absent) (l.short k)

    pub laid_ok : BlockOf id at k c
    laid_ok = rw laid_block (ok_page_lem id k l.eight (get_or ss k absent) (l.short k))

    -- a block written anew sets its slot
    pub laid_set : (p : Slot) (x : List ℕ) → Short (data_of p) → x ≡ with_page at id k p c → Laid id s t (set ss k p) x
    laid_set p x g e =
        record {
          eight = l.eight;
          slots = length-set ss k p ∙ l.slots;
          short = data_set Short short_none ss k p l.short g;
          bytes =
              e
              ∙ ap (with_page at id k p) l.bytes
              ∙ page_anew id l.eight (head_for id s t) k at ss p l.eight (omega (arith, l.slots)) l.short g place;
        }

  -- a head block written anew leaves the slots
  pub laid_head : (s' t' : ℕ) (x : List ℕ) → x ≡ with_head (head_for id s' t') c → Laid id s' t' ss x
  laid_head s' t' x e =
      record {
        eight = l.eight;
        slots = l.slots;
        short = l.short;
        bytes =
            e ∙ ap (with_head (head_for id s' t')) l.bytes ∙ head_anew (head_for id s' t') (head_for id s t) (pages id 0 ss) l.eight l.eight;
      }

-- a well-formed collection is laid out as what it says
pub of_laid : (id c : List ℕ) → Of id c → Laid id (read_head c).state (read_head c).total (read_pages 0 96 c) c
of_laid id c (ok, e) =
    record {
      eight = ap length e ∙ ok_id c ok;
      slots = length_read 0 96 c;
      short = read_short 0 96 c;
      bytes = rw e
          (sym (take-append-drop 512 c)
          ∙ ap₂ ◌++◌ (head_stands c (ok_head_lem c ok)) (pages_are (read_head c) c 0 96 512 (ok_pages_lem c ok) refl (ok_size c ok)));
    }

-- the bytes of each kind of collection
module _ {id : List ℕ} {c : List ℕ} where
  pub laid_collecting : {t : ℕ} {ss : List Slot} → Laid id 1 t ss c → c ≡ encode id (collecting t ss)
  unfolding encode head_of state_no total_of slots_of
  laid_collecting l = l.bytes

  pub laid_disagree : Laid id 2 0 no_pages c → c ≡ encode id disagree
  unfolding encode head_of state_no total_of slots_of
  laid_disagree l = l.bytes
