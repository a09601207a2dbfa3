-- The head block: its length, the writes that make it, and the tests that judge it.
-- Assumes nothing.
use mathlib.Core.Path.{◌≡◌, refl, sym, ap, ◌∙◌}
use mathlib.Core.Bool.{Bool, true, false, ◌&&◌}
use mathlib.Core.List.{List, [], ◌∷◌, ◌++◌}
use Prim.Native.Nat.{ℕ, ◌-◌, ◌≤◌, ◌<◌}
use native.Mathlib.Omega.{arith}
use borrow.Author.Tests.{eq-eqb, ne_eqb, le-leb, lt-leb}
use lib.Dec.{eqb, leb}
use lib.ListN.{length, take, drop, replicate, length-append, length-replicate, length-take, length-drop, drop_of_length-le}
use lib.Seq.{take_all}
use Rattle.wire.specs.Answer.{number_of}
use Rattle.wire.specs.Over.{over}
use Rattle.wire.proofs.Overs.{over_out, over_run, over_all}
use Rattle.lend.specs.Same.{same}
use Rattle.block.specs.Block.{with_sum}
use Rattle.block.specs.Read.{block_at}
use Rattle.block.proofs.Lengths.{length_sealed}
use Rattle.block.proofs.Writing.{sealing}
use Rattle.block.proofs.Reading.{block_here}
use Rattle.book.specs.Head.{Head, head_for, head_body, head_block, with_head, read_head, ok_total, ok_head, has_head, head_in}

module _ (h : Head) (eight : length h.id ≡ 8) where
  pub length_head : length (head_body h) ≡ 508
  unfolding head_body
  length_head = simp (length-append, length-replicate) (omega arith)

  pub length_headblock : length (head_block h) ≡ 512
  unfolding head_block
  length_headblock = length_sealed (head_body h) ∙ omega (arith, length_head)

-- ---- written

pub head_laid : (id : List ℕ) (s t : ℕ) (l v w x y z : List ℕ) → (508 ≤ length l) × (length id ≡ 8)
    → v ≡ over 0 (0x49 ∷ 0x4D ∷ 1 ∷ []) l → w ≡ over 3 (s ∷ []) v → x ≡ over 4 id w → y ≡ over 12 (t ∷ []) x → z ≡ over 13 (replicate 495 0) y
    → z ≡ over 0 (head_body (head_for id s t)) l
unfolding head_body
head_laid id s t l v w x y z (room, eight) ev ew ex ey ez =
    let f : List ℕ = 0x49 ∷ 0x4D ∷ 1 ∷ s ∷ [] in
    let a = over_run 0 3 3 1 (0x49 ∷ 0x4D ∷ 1 ∷ []) (s ∷ []) l v w ew (ev, refl) refl refl (omega arith) in
    let b = over_run 0 4 4 8 f id l w x ex a eight refl (omega arith) in
    let c = over_run 0 12 12 1 (f ++ id) (t ∷ []) l x y ey b refl refl (omega arith) in
    (over_run 0 13 13 495 (f ++ id ++ (t ∷ [])) (replicate 495 0) l y z ez c (length-replicate {A = ℕ} 495 0) refl (omega arith)).0

module _ (h : Head) (l : List ℕ) where
  pub head_id : (length h.id ≡ 8 → ⊥) → l ≡ with_head h l
  unfolding with_head
  head_id n = rw (ne_eqb (length h.id) 8 n)

  -- a head block that there is, is written
  pub with_head_lem : length h.id ≡ 8 → with_head h l ≡ over 0 (head_block h) l
  unfolding with_head
  with_head_lem eight = rw (eq-eqb (length h.id) 8 eight)

  pub head_short : length h.id ≡ 8 → length l < 512 → l ≡ with_head h l
  head_short eight short = sym (with_head_lem eight ∙ over_out 0 (head_block h) l (omega (arith, length_headblock h eight)))

  pub head_done : (x y : List ℕ) → length h.id ≡ 8 → 512 ≤ length l → x ≡ over 0 (head_body h) l → y ≡ with_sum 0 x → y ≡ with_head h l
  unfolding head_block
  head_done x y eight room ex ey = sealing 0 (head_body h) l x y (length_head h eight) room ex ey ∙ sym (with_head_lem eight)

-- ---- judged

module _ (s t : ℕ) where
  pub total_zero : s ≡ 1 → t ≡ 0 → false ≡ ok_total s t
  unfolding ok_total
  total_zero e f = rw (e, f)

  pub total_one : s ≡ 1 → (t ≡ 0 → ⊥) → leb t 96 ≡ ok_total s t
  unfolding ok_total
  total_one e f = rw (e, le-leb 1 t (omega arith))

  pub total_other : (s ≡ 1 → ⊥) → s ≤ 2 → eqb t 0 ≡ ok_total s t
  unfolding ok_total
  total_other e f = rw (ne_eqb s 1 e, le-leb s 2 f)

  pub total_none : (s ≡ 1 → ⊥) → 2 < s → false ≡ ok_total s t
  unfolding ok_total
  total_none e f = rw (ne_eqb s 1 e, lt-leb s 2 f)

pub both_no : (a : Bool) → false ≡ (a && false)
both_no true = refl
both_no false = refl

module _ (c : List ℕ) where
  pub size_no : (length c ≡ 49664 → ⊥) → false ≡ has_head c
  unfolding has_head
  size_no n = rw (ne_eqb (length c) 49664 n)

  -- s and t are what the head says
  module _ (s t : ℕ) (es : s ≡ (read_head c).state) (et : t ≡ (read_head c).total) (q : Bool) (e : q ≡ ok_total s t) where
    pub total_no : q ≡ false → false ≡ has_head c
    unfolding has_head ok_head
    total_no f = rw (← es, ← et, ← e, f) (both_no (eqb (length c) 49664))

    -- the head block is written anew from what it says, over 512 zeros, and compared
    pub head_again : (i y : List ℕ) (r : Bool) → length c ≡ 49664 → q ≡ true → i ≡ (read_head c).id
        → y ≡ with_head (head_for i s t) (replicate 512 0) → r ≡ same (take 512 c) y → r ≡ has_head c
    unfolding has_head ok_head read_head
    head_again i y r size f ei ey er =
        let h : Head = read_head c in
        let eight : length h.id ≡ 8 = simp (length-take, length-drop) (omega arith) in
        let z : y ≡ head_block h =
        ey ∙ rw (ei, es, et) (with_head_lem h (replicate 512 0) eight ∙ over_all (head_block h) (replicate 512 0) (length_headblock h eight ∙ sym (length-replicate {A = ℕ} 512 0))) in
        let b : block_at 0 c ≡ take 512 c = block_here 0 c (omega arith) in
        er ∙ rw (z, eq-eqb (length c) 49664 size, ← es, ← et, ← e, f, b)

-- ---- what the head says, of bytes that end before

module _ (c : List ℕ) where
  pub no_id : length c < 4 → [] ≡ (read_head c).id
  unfolding read_head
  no_id h = sym (ap (take 8) (drop_of_length-le c {i = 4} (omega arith)))

  pub cut_id : (n : ℕ) → n ≡ length c → n < 12 → take (n - 4) (drop 4 c) ≡ (read_head c).id
  unfolding read_head
  cut_id n e h =
      take_all (n - 4) (drop 4 c) (omega (arith, length-drop 4 c)) ∙ sym (take_all 8 (drop 4 c) (omega (arith, length-drop 4 c)))

  pub whole_id : take 8 (drop 4 c) ≡ (read_head c).id
  unfolding read_head
  whole_id = refl

-- ---- the number of a refusal of the head

module _ (c : List ℕ) (q : Bool) (e : q ≡ has_head c) where
  pub head_fine : q ≡ true → 0 ≡ number_of (head_in c)
  unfolding head_in
  head_fine f = rw (← e, f)

  pub head_bad : q ≡ false → 13 ≡ number_of (head_in c)
  unfolding head_in
  head_bad f = rw (← e, f)
