-- The data of the pages, one after another: what each turn of a loop over them comes to know.
-- Assumes nothing.
use mathlib.Core.Path.{◌≡◌, refl, sym, ap, ◌∙◌}
use mathlib.Core.List.{List, [], ◌++◌, append_assoc, append-nil}
use Prim.Native.Nat.{ℕ, suc, ◌+◌, ◌*◌, ◌-◌, ◌≤◌, ◌<◌}
use native.Mathlib.Nat.{sub-zero}
use native.Mathlib.Numerals.{add-one}
use native.Mathlib.Omega.{arith}
use lib.ListN.{length, take, drop, length-append}
use lib.Seq.{take_at, drop_at, drop-nil, drop-drop, drop-append-le}
use Rattle.wire.specs.Over.{over}
use Rattle.wire.proofs.Overs.{over_none, over_then, length_over}
use Rattle.model.specs.Book.{data_of}
use Rattle.model.specs.Finish.{joined}
use Rattle.block.specs.Read.{block_at, read_slot}
use Rattle.block.proofs.Reading.{read_fits}
use Rattle.book.specs.Read.{page_at, read_pages}
use Rattle.finish.specs.Private.{data_at, behind}

-- ---- what is left of the data

module _ (c : List ℕ) (t : ℕ) where
  pub behind_all : behind c t 0 0 ≡ joined (read_pages 0 t c)
  unfolding behind
  behind_all = rw (sub-zero t)

  pub behind_none : (k i : ℕ) → t ≤ k → behind c t k i ≡ []
  unfolding behind read_pages joined
  behind_none k i h = let z : t - k ≡ 0 = omega arith in rw z (drop-nil i)

  pub behind_turn : (k i : ℕ) → k < t → i ≤ length (data_at c k) → behind c t k i ≡ drop i (data_at c k) ++ behind c t (k + 1) 0
  unfolding behind read_pages joined
  behind_turn k i h l =
      let u : t - k ≡ suc (t - (k + 1)) = omega arith in
      rw (u, add-one k) (drop-append-le i (data_at c k) (joined (read_pages (suc k) (t - suc k) c)) l)

  pub behind_more : (k i m : ℕ) → behind c t k (i + m) ≡ drop m (behind c t k i)
  unfolding behind
  behind_more k i m = sym (drop-drop m i (joined (read_pages k (t - k) c)))

-- d is the data that the block of index k says
pub page_said : (c : List ℕ) (k at : ℕ) (d : List ℕ) → at ≡ 512 + 512 * k → d ≡ data_of (read_slot (block_at at c)) → d ≡ data_at c k
page_said c k at d place said = said ∙ rw place

-- ---- their length

-- the pages below k have n bytes
pub record Sized (c : List ℕ) (t k n : ℕ) : Type 0 where
  pub most : k ≤ t
  pub few : n ≤ 480 * k
  pub whole : n + length (behind c t k 0) ≡ length (joined (read_pages 0 t c))

module _ (c : List ℕ) (t : ℕ) where
  pub sized_none : Sized c t 0 0
  sized_none = record { most = omega arith; few = omega arith; whole = omega (arith, ap length (behind_all c t)) }

  pub sized_on : (k n : ℕ) (d : List ℕ) → k < t → d ≡ data_at c k → Sized c t k n → Sized c t (k + 1) (n + length d)
  sized_on k n d h said s =
      let e : length d ≡ length (data_at c k) = ap length said in
      record {
        most = omega arith;
        few = omega (arith, s.few, read_fits (page_at k c));
        whole = omega (arith, s.whole, ap length (behind_turn c t k 0 h (omega arith)) ∙ length-append (data_at c k) (behind c t (k + 1) 0));
      }

  pub sized_end : (k n : ℕ) → t ≤ k → Sized c t k n → n ≡ length (joined (read_pages 0 t c))
  sized_end k n h s = omega (arith, s.whole, ap length (behind_none c t k 0 h))

-- ---- put in front of a buffer

-- of the data w the first n bytes were put in front of l, which made x; r is what is left of them
pub record Pouring (w l x : List ℕ) (n : ℕ) (r : List ℕ) : Type 0 where
  pub front : List ℕ
  pub number : n ≡ length front
  pub whole : front ++ r ≡ w
  pub size : length x ≡ length l
  pub stands : x ≡ over 0 front l

pub pouring_none : (w l : List ℕ) → Pouring w l l 0 w
pouring_none w l = record { front = []; number = refl; whole = refl; size = refl; stands = sym (over_none 0 l) }

module _ (w l x : List ℕ) (n : ℕ) (r : List ℕ) (p : Pouring w l x n r) where
  pub pouring_on : (d y s : List ℕ) → r ≡ d ++ s → y ≡ over n d x → n + length d ≤ length l → Pouring w l y (n + length d) s
  pouring_on d y s e o fits = record {
    front = p.front ++ d;
    number = omega (arith, p.number, length-append p.front d);
    whole = append_assoc p.front d s ∙ rw (← e) p.whole;
    size = ap length o ∙ length_over n d x ∙ p.size;
    stands = over_then 0 n p.front d l x y o p.stands (omega (arith, p.number)) fits;
  }

  pub pouring_length : n + length r ≡ length w
  pouring_length = omega (arith, p.number, ap length p.whole, length-append p.front r)

  pub pouring_stands : x ≡ over 0 (take n w) l
  pouring_stands = p.stands ∙ rw (← p.whole, take_at p.front r n (sym p.number))

  pub pouring_left : r ≡ drop n w
  pouring_left = rw (← p.whole, drop_at p.front r n (sym p.number))

  pub pouring_end : r ≡ [] → x ≡ over 0 w l
  pouring_end e =
      let all : p.front ≡ w = sym (append-nil p.front) ∙ rw e at p.whole in
      p.stands ∙ rw all

-- ---- all of them

module _ (c : List ℕ) (t : ℕ) (l : List ℕ) where
  -- those of the pages below k
  abbrev pub Gathering : ℕ → ℕ → List ℕ → Type 0
  Gathering k n x = (n ≤ 480 * k) × Pouring (joined (read_pages 0 t c)) l x n (behind c t k 0)

  pub gathering_none : Gathering 0 0 l
  gathering_none = (omega arith, rw (behind_all c t) (pouring_none (joined (read_pages 0 t c)) l))

  pub gathering_on : (k n : ℕ) (d x y : List ℕ) → length (joined (read_pages 0 t c)) ≤ length l → k < t → d ≡ data_at c k
      → y ≡ over n d x → Gathering k n x → Gathering (k + 1) (n + length d) y
  gathering_on k n d x y room h here o (few, g) =
      let turn : behind c t k 0 ≡ d ++ behind c t (k + 1) 0 = behind_turn c t k 0 h (omega arith) ∙ rw (← here) in
      let fits : n + length d ≤ length l = omega (arith, pouring_length _ l x n _ g, ap length turn ∙ length-append d (behind c t (k + 1) 0)) in
      (omega (arith, ap length here, read_fits (page_at k c)), pouring_on _ l x n _ g d y _ turn o fits)

  pub gathering_end : (k n : ℕ) (x : List ℕ) → t ≤ k → Gathering k n x → x ≡ over 0 (joined (read_pages 0 t c)) l
  gathering_end k n x h (few, g) = pouring_end _ l x n _ g (behind_none c t k 0 h)
