-- The blocks of any 49,664 bytes: what a write into one of them leaves of the others, and that the
-- blocks are all there is. Assumes nothing.
use mathlib.Core.Path.{◌≡◌, refl, sym, ap, ap₂, ◌∙◌}
use mathlib.Core.Logic.{⊎_elim}
use mathlib.Core.List.{List, ◌++◌}
use Prim.Native.Nat.{ℕ, zero, suc, ◌+◌, ◌*◌, ◌-◌, ◌≤◌, ◌<◌}
use native.Mathlib.Omega.{arith}
use lib.ListN.{length, take, drop, take-append-drop, drop_of_length-le}
use lib.Seq.{drop-drop, take-take, take-add, length-take-le, drop_at}
use Rattle.wire.specs.Over.{over}
use Rattle.wire.proofs.Cases.{lt_or_le}
use Rattle.wire.proofs.Overs.{length_over, take_over, drop_over, read_over}
use Rattle.block.proofs.Reading.{block_here}
use Rattle.book.specs.Read.{page_at}

-- a part of the front of a list
take_part : (m a n : ℕ) (l : List ℕ) → a + m ≤ n → n ≤ length l → take m (drop a (take n l)) ≡ take m (drop a l)
take_part m a n l h k =
    let e : n ≡ a + (n - a) = omega arith in
    ap (λ (z : ℕ). take m (drop a (take z l))) e
    ∙ ap (λ (r : List ℕ). take m (drop a r)) (take-add a (n - a) l)
    ∙ ap (take m) (drop_at (take a l) (take (n - a) (drop a l)) a (length-take-le a l (omega arith)))
    ∙ take-take m (n - a) (drop a l) (omega arith)

-- ---- a write of 512 bytes in the place of block i

module _ (c b : List ℕ) (i at : ℕ) (size : length c ≡ 49664) (one : length b ≡ 512) (h : i < 96) (place : at ≡ 512 + 512 * i) where
  fits : at + length b ≤ length c
  fits = omega arith

  pub anew_size : length (over at b c) ≡ 49664
  anew_size = length_over at b c ∙ size

  -- the block is the one that was written
  pub anew_here : page_at i (over at b c) ≡ b
  anew_here =
      block_here (512 + 512 * i) (over at b c) (omega (arith, anew_size))
      ∙ rw (← place, ← one) (read_over at b c fits)

  -- the front of the list stays, with the head and the blocks before
  front : (a m : ℕ) → a + m ≤ at → take m (drop a (over at b c)) ≡ take m (drop a c)
  front a m w =
      sym (take_part m a at (over at b c) w (omega (arith, anew_size)))
      ∙ ap (λ (l : List ℕ). take m (drop a l)) (take_over at b c fits)
      ∙ take_part m a at c w (omega arith)

  -- and so does what stands behind the block
  behind : (a m : ℕ) → at + 512 ≤ a → take m (drop a (over at b c)) ≡ take m (drop a c)
  behind a m w =
      let e : a ≡ at + length b + (a - (at + length b)) = omega arith in
      ap (λ (z : ℕ). take m (drop z (over at b c))) e
      ∙ ap (take m) (sym (drop-drop (a - (at + length b)) (at + length b) (over at b c)) ∙ ap (drop (a - (at + length b))) (drop_over at b c fits) ∙ drop-drop (a - (at + length b)) (at + length b) c)
      ∙ ap (λ (z : ℕ). take m (drop z c)) (sym e)

  pub anew_front : take 512 (over at b c) ≡ take 512 c
  anew_front = front 0 512 (omega arith)

  -- every other block stays
  pub anew_other : (k : ℕ) → k < 96 → (k ≡ i → ⊥) → page_at k (over at b c) ≡ page_at k c
  anew_other k g n =
      block_here (512 + 512 * k) (over at b c) (omega (arith, anew_size))
      ∙ ⊎_elim (λ below. front (512 + 512 * k) 512 (omega arith)) (λ above. behind (512 + 512 * k) 512 (before above)) (lt_or_le k i)
      ∙ sym (block_here (512 + 512 * k) c (omega arith))
    where
      before : i ≤ k → at + 512 ≤ 512 + 512 * k
      before w = ⊎_elim (λ lt. omega (arith, lt)) (λ le. absurd (n (omega (arith, le, w)))) (lt_or_le i k)

-- ---- the blocks are all there is

module _ (a b : List ℕ) where
  rest_same : (k n p : ℕ) → length a ≡ p + 512 * n → length b ≡ p + 512 * n → p ≡ 512 + 512 * k
      → ((j : ℕ) → k ≤ j → j < k + n → page_at j a ≡ page_at j b) → drop p a ≡ drop p b
  rest_same k zero p l m e f = drop_of_length-le a {i = p} (omega arith) ∙ sym (drop_of_length-le b {i = p} (omega arith))
  rest_same k (suc n) p l m e f =
      let x : take 512 (drop p a) ≡ take 512 (drop p b) =
      rw e (sym (block_here (512 + 512 * k) a (omega arith)) ∙ f k (omega arith) (omega arith) ∙ block_here (512 + 512 * k) b (omega arith)) in
      let y : drop 512 (drop p a) ≡ drop 512 (drop p b) =
      drop-drop 512 p a ∙ rest_same (suc k) n (p + 512) (omega arith) (omega arith) (omega arith) (λ j g h. f j (omega arith) (omega arith)) ∙ sym (drop-drop 512 p b) in
      sym (take-append-drop 512 (drop p a)) ∙ ap₂ ◌++◌ x y ∙ take-append-drop 512 (drop p b)

  -- two files with the same head and the same page blocks are the same
  pub same_blocks : length a ≡ 49664 → length b ≡ 49664 → take 512 a ≡ take 512 b → ((k : ℕ) → k < 96 → page_at k a ≡ page_at k b) → a ≡ b
  same_blocks l m e f =
      sym (take-append-drop 512 a)
      ∙ ap₂ ◌++◌ e (rest_same 0 96 512 l m refl (λ j g h. f j (omega arith)))
      ∙ take-append-drop 512 b
