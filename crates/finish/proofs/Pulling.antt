-- A block of the data pulled from a cursor on, and the hash of all blocks. Assumes nothing.
use mathlib.Core.Path.{◌≡◌, sym, ap, ◌∙◌}
use mathlib.Core.Bool.{true, false}
use mathlib.Core.List.{List, [], ◌++◌}
use Prim.Native.Nat.{ℕ, ◌+◌, ◌-◌, ◌≤◌, ◌<◌, min}
use native.Mathlib.Omega.{arith}
use lib.ListN.{length, take, drop, replicate, length-take, length-drop, length-replicate, take-append-drop, drop_of_length-le, replicate-append-replicate}
use lib.Seq.{take_all, take-append-le, length-take-le}
use Rattle.wire.specs.Over.{over}
use Rattle.wire.proofs.Overs.{over_all, over_front}
use Rattle.blake2b.specs.Blake2b.{words, start, F, digest, blake2b}
use Rattle.blake2b.proofs.Pieces.{Hashing, hashing_start, hashing_left, hashing_block, hashing_last}
use Rattle.document_id.specs.Id.{id_from, document_id_of}
use Rattle.model.specs.Finish.{joined}
use Rattle.block.proofs.Reading.{read_fits}
use Rattle.book.specs.Read.{page_at, read_pages}
use Rattle.finish.specs.Private.{data_at, behind, Pulls}
use Rattle.finish.proofs.Gathering.{behind_all, behind_none, behind_turn, behind_more, Pouring, pouring_none, pouring_on, pouring_length, pouring_stands, pouring_left, pouring_end}

-- ---- one block

-- from the cursor k₀, i₀ on n bytes were put in front of the block l, which made x; the cursor k, i
-- stands behind them
pub record Pulling (c : List ℕ) (t k₀ i₀ : ℕ) (l x : List ℕ) (k i n : ℕ) : Type 0 where
  pub inside : i ≤ length (data_at c k)
  pub few : i ≤ 480
  pub most : n ≤ 128
  pub poured : Pouring (behind c t k₀ i₀) l x n (behind c t k i)

module _ (c : List ℕ) (t k₀ i₀ : ℕ) (l : List ℕ) (pre : (length l ≡ 128) × (i₀ ≤ length (data_at c k₀))) where
  pub pulling_start : Pulling c t k₀ i₀ l l k₀ i₀ 0
  pulling_start = record {
    inside = pre.1;
    few = omega (arith, pre.1, read_fits (page_at k₀ c));
    most = omega arith;
    poured = pouring_none (behind c t k₀ i₀) l;
  }

  module _ (x : List ℕ) (k i n : ℕ) (p : Pulling c t k₀ i₀ l x k i n) where
    -- no page is left
    pub pulling_end : t ≤ k → Pulls c t k₀ i₀ l x t 0
    pulling_end h =
        let none : behind c t k i ≡ [] = behind_none c t k i h in
        let few : length (behind c t k₀ i₀) ≤ 128 = omega (arith, p.most, pouring_length _ l x n _ p.poured, ap length none) in
        record {
          inside = omega arith;
          stands = pouring_end _ l x n _ p.poured none ∙ rw (take_all 128 (behind c t k₀ i₀) few);
          left = behind_none c t t 0 (omega arith) ∙ sym (drop_of_length-le (behind c t k₀ i₀) {i = 128} few);
        }

    -- the block of index k has the data d, and as many of them are taken as there is room for:
    -- those before e
    module _ (h : k < t) (d : List ℕ) (here : d ≡ data_at c k) (e : ℕ) (end : e ≡ min (i + (128 - n)) (length d)) where
      pub pulling_inside : i ≤ e
      pulling_inside = omega (arith, p.inside, ap length here)

      taken : length (take (e - i) (drop i d)) ≡ e - i
      taken = simp (length-take, length-drop) (omega arith)

      split : behind c t k i ≡ take (e - i) (drop i d) ++ behind c t k e
      split =
          let m : i + (e - i) ≡ e = omega (arith, pulling_inside) in
          let long : e - i ≤ length (drop i d) = simp length-drop (omega arith) in
          let front : take (e - i) (behind c t k i) ≡ take (e - i) (drop i d) =
          ap (take (e - i)) (behind_turn c t k i h p.inside) ∙ rw (← here) (take-append-le (e - i) (drop i d) (behind c t (k + 1) 0) long) in
          sym (take-append-drop (e - i) (behind c t k i)) ∙ rw (front, ← behind_more c t k i (e - i), m)

      module _ (y : List ℕ) (o : y ≡ over n (take (e - i) (drop i d)) x) where
        more : Pouring (behind c t k₀ i₀) l y (n + (e - i)) (behind c t k e)
        more = rw taken at (pouring_on _ l x n _ p.poured (take (e - i) (drop i d)) y _ split o (omega (arith, taken, p.most, pre.0)))

        -- the block is full before the page ends
        pub pulling_cut : e < length d → Pulls c t k₀ i₀ l y k e
        pulling_cut near =
            let full : n + (e - i) ≡ 128 = omega (arith, p.most) in
            record {
              inside = omega (arith, ap length here);
              stands = pouring_stands _ l y _ _ more ∙ rw full;
              left = pouring_left _ l y _ _ more ∙ rw full;
            }

        -- the page ends
        pub pulling_on : length d ≤ e → Pulling c t k₀ i₀ l y (k + 1) 0 (n + (e - i))
        pulling_on far =
            let all : drop e (data_at c k) ≡ [] = drop_of_length-le (data_at c k) {i = e} (omega (arith, ap length here)) in
            let next : behind c t k e ≡ behind c t (k + 1) 0 = behind_turn c t k e h (omega (arith, ap length here)) ∙ rw all in
            record { inside = omega arith; few = omega arith; most = omega (arith, p.most); poured = rw next at more }

-- ---- all blocks

-- bytes in front of zeros
over_zeros : (r : List ℕ) → length r ≤ 128 → over 0 r (replicate 128 0) ≡ r ++ replicate (128 - length r) 0
over_zeros r h =
    let n : ℕ = length r in
    let e : n + (128 - n) ≡ 128 = omega arith in
    let z : replicate {A = ℕ} 128 0 ≡ replicate n 0 ++ replicate (128 - n) 0 = sym (replicate-append-replicate n (128 - n) 0 ∙ ap (λ (m : ℕ). replicate {A = ℕ} m 0) e) in
    ap (over 0 r) z ∙ over_front (replicate n 0) r (replicate (128 - n) 0) (sym (length-replicate {A = ℕ} n 0))

-- h is the state after the blocks before the cursor k, i; the next ends at byte e
pub record Absorbing (c : List ℕ) (t : ℕ) (h : List ℕ) (k i e : ℕ) : Type 0 where
  pub inside : i ≤ length (data_at c k)
  pub state : Hashing (joined (read_pages 0 t c)) e h (behind c t k i)

module _ (c : List ℕ) (t : ℕ) where
  pub absorbing_start : (h : List ℕ) → h ≡ start → Absorbing c t h 0 0 128
  absorbing_start h e = record { inside = omega arith; state = rw (behind_all c t, e) (hashing_start (joined (read_pages 0 t c))) }

  -- the data are n bytes, and x is the next block
  module _ (n : ℕ) (size : (n ≡ length (joined (read_pages 0 t c))) × (n ≤ 46080)) (h : List ℕ) (k i e : ℕ) (p : Absorbing c t h k i e)
      (x : List ℕ) (k' i' : ℕ) (q : Pulls c t k i (replicate 128 0) x k' i') where
    long : length (behind c t k i) ≡ n - (e - 128)
    long = hashing_left _ e h _ p.state ∙ rw (← size.0)

    pub absorbing_on : e < n → (y : List ℕ) → y ≡ F h (words x 0) e false → Absorbing c t y k' i' (e + 128)
    absorbing_on l y f =
        let m : length (take 128 (behind c t k i)) ≡ 128 = length-take-le 128 (behind c t k i) (omega (arith, long, p.state.ends)) in
        let all : x ≡ take 128 (behind c t k i) = q.stands ∙ over_all (take 128 (behind c t k i)) (replicate 128 0) (m ∙ sym (length-replicate {A = ℕ} 128 0)) in
        record { inside = q.inside; state = rw q.left (hashing_block _ e h _ p.state (omega (arith, size.0)) x y all f) }

    pub absorbing_end : n ≤ e → (d r : List ℕ) → d ≡ digest (F h (words x 0) n true) → r ≡ id_from d → r ≡ document_id_of (joined (read_pages 0 t c))
    unfolding document_id_of
    absorbing_end l d r f g =
        let few : length (behind c t k i) ≤ 128 = omega (arith, long, p.state.ends) in
        let all : x ≡ behind c t k i ++ replicate (128 - length (behind c t k i)) 0 =
        q.stands ∙ rw (take_all 128 (behind c t k i) few) (over_zeros (behind c t k i) few) in
        let whole : d ≡ blake2b (joined (read_pages 0 t c)) =
        f ∙ rw size.0 (hashing_last _ e h _ p.state (omega (arith, size.0)) x all) in
        g ∙ ap id_from whole
