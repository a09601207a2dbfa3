-- Page blocks one after another: their length, their places, a block written anew. Assumes nothing.
use mathlib.Core.Path.{◌≡◌, refl, sym, ap, ◌∙◌}
use mathlib.Core.List.{List, [], ◌∷◌, ◌++◌, append_assoc, append-nil}
use Prim.Native.Nat.{ℕ, zero, suc, ◌+◌, ◌*◌, ◌≤◌, ◌<◌}
use native.Mathlib.Omega.{arith}
use borrow.Author.Tests.{eq-eqb, ne_eqb}
use lib.ListN.{length, take, drop, get_or, set, replicate, length-append, length-replicate, replicate-append-replicate}
use lib.Seq.{take_at, drop-append-add}
use Rattle.wire.specs.Over.{over}
use Rattle.wire.proofs.Overs.{over_out, over_append, over_none, length_over, over_front, over_skip}
use Rattle.model.specs.Book.{Slot, absent, data_of, no_pages}
use Rattle.block.specs.Block.{page_block, with_page}
use Rattle.block.proofs.Lengths.{length_block}
use Rattle.block.proofs.Writing.{with_page_lem}
use Rattle.book.specs.Encode.{pages, with_blank}
use Rattle.model.proofs.Slots.{length_none}
use Rattle.model.proofs.Valid.{EachData, Short, short_none, data_none}

pub short_absent : Short (data_of absent)
unfolding data_of
short_absent = omega arith

pub short_blank : (n : ℕ) → EachData Short (replicate n absent)
short_blank zero k = short_absent
short_blank (suc n) zero = short_absent
short_blank (suc n) (suc k) = short_blank n k

module _ (id : List ℕ) (eight : length id ≡ 8) where
  pub length_pages : (k : ℕ) (ps : List Slot) → EachData Short ps → length (pages id k ps) ≡ 512 * length ps
  unfolding pages
  length_pages k [] f = refl
  length_pages k (p ∷ ps) f =
      let a : length (page_block id k p) ≡ 512 = length_block id k p eight (f 0) in
      let b : length (pages id (suc k) ps) ≡ 512 * length ps = length_pages (suc k) ps (λ j. f (suc j)) in
      length-append (page_block id k p) (pages id (suc k) ps) ∙ omega arith

  -- one page more at the end
  pub pages_snoc : (k m : ℕ) (ps : List Slot) (p : Slot) → m ≡ k + length ps → pages id k (ps ++ (p ∷ [])) ≡ pages id k ps ++ page_block id m p
  unfolding pages
  pages_snoc k m [] p e =
      let f : m ≡ k = omega arith in
      rw f (append-nil (page_block id k p))
  pages_snoc k m (q ∷ ps) p e =
      ap (λ (r : List ℕ). page_block id k q ++ r) (pages_snoc (suc k) m ps p (omega arith))
      ∙ sym (append_assoc (page_block id k q) (pages id (suc k) ps) (page_block id m p))

  -- block i of them
  pub pages_at : (k i n m : ℕ) (ps : List Slot) → i < length ps → EachData Short ps → n ≡ 512 * i → m ≡ k + i → take 512 (drop n (pages id k ps)) ≡ page_block id m (get_or ps i absent)
  unfolding pages
  pages_at k i n m [] h f e d = absurd (omega arith)
  pages_at k zero n m (q ∷ ps) h f e d =
      let x : m ≡ k = omega arith in
      let y : n ≡ 0 = omega arith in
      rw (x, y) (take_at (page_block id k q) (pages id (suc k) ps) 512 (length_block id k q eight (f 0)))
  pages_at k (suc i) n m (q ∷ ps) h f e d =
      let x : n ≡ length (page_block id k q) + 512 * i = omega (arith, length_block id k q eight (f 0)) in
      rw (x, drop-append-add (page_block id k q) (pages id (suc k) ps) (512 * i)) (pages_at (suc k) i (512 * i) m ps (omega arith) (λ j. f (suc j)) refl (omega arith))

  -- block i written anew
  pub pages_set : (k i n m : ℕ) (ps : List Slot) (p : Slot) → i < length ps → EachData Short ps → Short (data_of p) → n ≡ 512 * i → m ≡ k + i
      → over n (page_block id m p) (pages id k ps) ≡ pages id k (set ps i p)
  unfolding pages
  pages_set k i n m [] p h f g e d = absurd (omega arith)
  pages_set k zero n m (q ∷ ps) p h f g e d =
      let x : m ≡ k = omega arith in
      let y : n ≡ 0 = omega arith in
      rw (x, y) (over_front (page_block id k q) (page_block id k p) (pages id (suc k) ps) (length_block id k p eight g ∙ sym (length_block id k q eight (f 0))))
  pages_set k (suc i) n m (q ∷ ps) p h f g e d =
      over_skip n (512 * i) (page_block id k q) (page_block id m p) (pages id (suc k) ps) (omega (arith, length_block id k q eight (f 0)))
      ∙ ap (λ (r : List ℕ). page_block id k q ++ r) (pages_set (suc k) i (512 * i) m ps p (omega arith) (λ j. f (suc j)) g refl (omega arith))

-- ---- every page absent

-- the first k pages of l were made absent
pub record Blanked (id : List ℕ) (l : List ℕ) (k : ℕ) (x : List ℕ) : Type 0 where
  pub most : k ≤ 96
  pub stands : x ≡ over 512 (pages id 0 (replicate k absent)) l
  pub size : length x ≡ length l

module _ (id : List ℕ) (l : List ℕ) where
  pub blank_none : Blanked id l 0 l
  unfolding pages
  blank_none = record { most = omega arith; stands = sym (over_none 512 l); size = refl }

  pub blank_id : (length id ≡ 8 → ⊥) → l ≡ with_blank id l
  unfolding with_blank
  blank_id n = rw (ne_eqb (length id) 8 n)

  module _ (eight : length id ≡ 8) where
    all_blank : length (pages id 0 no_pages) ≡ 49152
    all_blank = length_pages id eight 0 no_pages (data_none Short short_none) ∙ omega (arith, length_none)

    pub with_blank_lem : with_blank id l ≡ over 512 (pages id 0 no_pages) l
    unfolding with_blank
    with_blank_lem = rw (eq-eqb (length id) 8 eight)

    pub blank_short : length l < 49664 → l ≡ with_blank id l
    blank_short h = sym (with_blank_lem ∙ over_out 512 (pages id 0 no_pages) l (omega (arith, all_blank)))

    pub blank_on : (k at : ℕ) (x y : List ℕ) → 49664 ≤ length l → k < 96 → at ≡ 512 + 512 * k → Blanked id l k x → y ≡ with_page at id k absent x
        → Blanked id l (k + 1) y
    blank_on k at x y room h e b w =
        let n : length (pages id 0 (replicate k absent)) ≡ 512 * k =
        length_pages id eight 0 (replicate k absent) (short_blank k) ∙ ap (λ (z : ℕ). 512 * z) (length-replicate k absent) in
        let one : length (page_block id k absent) ≡ 512 = length_block id k absent eight short_absent in
        let s : pages id 0 (replicate k absent ++ (absent ∷ [])) ≡ pages id 0 (replicate k absent) ++ page_block id k absent =
        pages_snoc id eight 0 k (replicate k absent) absent (omega (arith, length-replicate k absent)) in
        let z : y ≡ over 512 (pages id 0 (replicate (k + 1) absent)) l =
        w ∙ with_page_lem at id k absent x eight short_absent ∙ ap (over at (page_block id k absent)) b.stands
        ∙ over_append 512 (pages id 0 (replicate k absent)) (page_block id k absent) l at (omega arith) (omega arith)
        ∙ ap (λ (r : List ℕ). over 512 r l) (sym s ∙ ap (pages id 0) (replicate-append-replicate k 1 absent)) in
        record { most = omega arith; stands = z; size = ap length z ∙ length_over 512 (pages id 0 (replicate (k + 1) absent)) l }

    pub blank_end : (k : ℕ) (x : List ℕ) → 96 ≤ k → Blanked id l k x → x ≡ with_blank id l
    unfolding no_pages
    blank_end k x h b =
        let e : k ≡ 96 = omega (arith, b.most) in
        b.stands ∙ ap (λ (n : ℕ). over 512 (pages id 0 (replicate n absent)) l) e ∙ sym with_blank_lem
