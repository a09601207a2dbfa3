-- A secret comes back from slips of its split, any that are enough, in any order. Assumes nothing.
use mathlib.Core.Path.{◌≡◌, refl, sym, ap, ap₂, ◌∙◌}
use mathlib.Core.Bool.{Bool, true, not, ◌&&◌}
use mathlib.Core.List.{List, [], ◌∷◌, ◌++◌, map, append-nil}
use mathlib.Core.Logic.{⊎_elim}
use Prim.Native.Nat.{ℕ, zero, suc, ◌+◌, ◌-◌, ◌*◌, ◌<◌, ◌≤◌}
use native.Mathlib.Nat.{le_of_suc-le-suc, not-suc-le-zero, zero-add, suc-add}
use native.Mathlib.Omega.{arith}
use lib.Dec.{leb, eqb}
use lib.ListN.{length, take, drop, length-append, length-drop, length-map, take-append-drop}
use lib.Seq.{drop-nil, drop_at, drop-drop, drop-append-le, take-append-le}
use borrow.Author.Tests.{leb-true, le-leb, eq-eqb, eqb-false, not-true}
use Rattle.wire.specs.Answer.{done, demand}
use Rattle.wire.specs.Every.{every, without}
use Rattle.wire.specs.Number.{big_endian, number, Bytes}
use Rattle.wire.proofs.Both.{hold_both}
use Rattle.wire.proofs.Cases.{lt_or_le, passed, both_hold}
use Rattle.wire.proofs.Digits.{small_drop}
use Rattle.lend.specs.Same.{same}
use Rattle.lend.proofs.Sames.{same_refl}
use Rattle.field.specs.Field.{plus}
use Rattle.field.specs.Element.{filled, block}
use Rattle.field.proofs.Sums.{none_plus, apart}
use Rattle.field.proofs.Products.{none_product}
use Rattle.field.proofs.Blocks.{filled_whole, block_good, bytes_of_block, block_of_bytes}
use Rattle.curve.specs.Curve.{value_at, blocks, through_at}
use Rattle.curve.proofs.Curves.{Good, Goods, GoodValues, Far, Apart, On, good_value, curve_recovered}
use Rattle.split.specs.Split.{blocks_in, share_of, quorum_allowed, split_verdict}
use Rattle.split.proofs.Sharing.{share_snoc, length_share}
use Rattle.recover.specs.Recover.{Slip, alike, distinct, block_of, points, on_curves, values_at0, unfilled, combined}
use Rattle.recover.specs.Claims.{Each, OfSplit, with_share}

-- ---- each of a list

pub each_as : {A : Type 0} {P Q : A → Type 0} → ((x : A) → P x → Q x) → (xs : List A) → Each P xs → Each Q xs
each_as f [] e = tt
each_as f (x ∷ xs) e = (f x e.0, each_as f xs e.1)

pub each_drop : {A : Type 0} (P : A → Type 0) (n : ℕ) (xs : List A) → Each P xs → Each P (drop n xs)
each_drop P zero xs e = e
each_drop P (suc n) [] e = tt
each_drop P (suc n) (x ∷ xs) e = each_drop P n xs e.1

pub each_every : {A : Type 0} (test : A → Bool) (xs : List A) → Each (λ x. test x ≡ true) xs → every test xs ≡ true
unfolding every
each_every test [] e = refl
each_every test (x ∷ xs) e = hold_both (test x) (every test xs) e.0 (each_every test xs e.1)

-- ---- blocks of a share

pub length_blocks : (n : ℕ) (bs : List ℕ) → length (blocks n bs) ≡ n
unfolding blocks
length_blocks zero bs = refl
length_blocks (suc n) bs = ap suc (length_blocks n (drop 16 bs))

pub good_blocks : (n : ℕ) (bs : List ℕ) → Bytes bs → Goods (blocks n bs)
unfolding blocks
good_blocks zero bs all = tt
good_blocks (suc n) bs all = (block_good bs all, good_blocks n (drop 16 bs) (small_drop 256 16 bs all))

-- what comes behind 16 bytes does not count
block_front : (xs ys : List ℕ) → 16 ≤ length xs → block (xs ++ ys) ≡ block xs
unfolding block
block_front xs ys h =
    ap (number 256)
    (filled_whole 16 (xs ++ ys) (omega (arith, length-append xs ys)) ∙ take-append-le 16 xs ys h ∙ sym (filled_whole 16 xs h))

-- 16 bytes and those behind them
pub block_parts : (bs : List ℕ) → Bytes bs → 16 ≤ length bs → big_endian 16 (block bs) ++ drop 16 bs ≡ bs
block_parts bs all h = ap (λ (l : List ℕ). l ++ drop 16 bs) (bytes_of_block bs all ∙ filled_whole 16 bs h) ∙ take-append-drop 16 bs

-- the curve on which the shares are at block k
abbrev pub curve_at : (k more : ℕ) (secret cs : List ℕ) → List ℕ
curve_at k more secret cs = block (drop (k * 16) secret) ∷ blocks more (drop (k * (more * 16)) cs)

module _ (more : ℕ) (secret cs : List ℕ) (bytes : Bytes secret) (coefficients : Bytes cs) where
  pub good_curve : (k : ℕ) → Goods (curve_at k more secret cs)
  good_curve k = (
    block_good (drop (k * 16) secret) (small_drop 256 (k * 16) secret bytes),
    good_blocks more (drop (k * (more * 16)) cs) (small_drop 256 (k * (more * 16)) cs coefficients),
  )

  pub share_block : (n k i : ℕ) → k < n → block (drop (k * 16) (share_of n more secret cs i)) ≡ value_at (curve_at k more secret cs) i
  share_block zero k i h = absurd (not-suc-le-zero h)
  share_block (suc n) k i h =
      ap (λ (l : List ℕ). block (drop (k * 16) l)) (share_snoc n more secret cs i)
      ∙ ⊎_elim (λ l. before l ∙ share_block n k i l) here (lt_or_le k n)
    where
      share : List ℕ
      share = share_of n more secret cs i

      last : List ℕ
      last = big_endian 16 (value_at (curve_at n more secret cs) i)

      before : k < n → block (drop (k * 16) (share ++ last)) ≡ block (drop (k * 16) share)
      before l =
          ap block (drop-append-le (k * 16) share last (omega (arith, length_share n more secret cs i)))
          ∙ block_front (drop (k * 16) share) last (omega (arith, length-drop (k * 16) share, length_share n more secret cs i))

      here : n ≤ k → block (drop (k * 16) (share ++ last)) ≡ value_at (curve_at k more secret cs) i
      here l =
          let e : k ≡ n = omega arith in
          ap (λ (j : ℕ). block (drop (j * 16) (share ++ last))) e
          ∙ ap block (drop_at share last (n * 16) (length_share n more secret cs i) ∙ sym (append-nil last))
          ∙ block_of_bytes (value_at (curve_at n more secret cs) i) [] (good_value (curve_at n more secret cs) i (good_curve n))
          ∙ ap (λ (j : ℕ). value_at (curve_at j more secret cs) i) (sym e)

-- ---- points

module _ {A : Type 0} (at value : A → ℕ) where
  far_places : (u : ℕ) (xs : List A) → u < 256 → Each (λ x. at x < 256) xs → without u (map at xs) ≡ true
      → Far u (map (λ x. (at x, value x)) xs)
  unfolding every
  far_places u [] h b w = tt
  far_places u (x ∷ xs) h b w =
      let p = both_hold (not (eqb (at x) u)) (without u (map at xs)) w in
      (apart (at x) u b.0 h (eqb-false (at x) u (not-true (eqb (at x) u) p.0)), far_places u xs h b.1 p.1)

  -- no two at one place, since no number stands twice
  pub apart_places : (xs : List A) → Each (λ x. at x < 256) xs → distinct (map at xs) ≡ true → Apart (map (λ x. (at x, value x)) xs)
  unfolding distinct
  apart_places [] b d = tt
  apart_places (x ∷ xs) b d =
      let p = both_hold (without (at x) (map at xs)) (distinct (map at xs)) d in
      (far_places (at x) xs b.0 b.1 p.0, apart_places xs b.1 p.1)

  pub each_on : (cs : List ℕ) (xs : List A) → Each (λ x. value x ≡ value_at cs (at x)) xs → On cs (map (λ x. (at x, value x)) xs)
  each_on cs [] e = tt
  each_on cs (x ∷ xs) e = (e.0, each_on cs xs e.1)

  pub as_many : (xs : List A) → length (map {B = ℕ × ℕ} (λ x. (at x, value x)) xs) ≡ length xs
  as_many xs = length-map xs (λ x. (at x, value x))

  pub good_points : (xs : List A) → Each (λ x. Good (value x)) xs → GoodValues (map (λ x. (at x, value x)) xs)
  good_points [] g = tt
  good_points (x ∷ xs) g = (g.0, good_points xs g.1)

pub length_points : (k : ℕ) (vs : List Slip) → length (points k vs) ≡ length vs
unfolding points
length_points k vs = as_many (λ v. v.index) (block_of k) vs

pub value_at_none : (c : ℕ) (cs : List ℕ) → value_at (c ∷ cs) 0 ≡ c
unfolding value_at
value_at_none c cs = ap (plus c) (none_product (value_at cs 0)) ∙ none_plus c

-- ---- what fills the last block

filled_parts : (m n : ℕ) (bs : List ℕ) → filled m bs ++ filled n (drop m bs) ≡ filled (m + n) bs
unfolding filled
filled_parts zero n bs = ap (λ (j : ℕ). filled j bs) (sym (zero-add n))
filled_parts (suc m) n [] =
    ap {B = List ℕ} (λ (l : List ℕ). 0 ∷ l) (ap (λ (l : List ℕ). filled m [] ++ filled n l) (sym (drop-nil m)) ∙ filled_parts m n [])
    ∙ ap (λ (j : ℕ). filled j []) (sym (suc-add m n))
filled_parts (suc m) n (b ∷ bs) =
    ap {B = List ℕ} (λ (l : List ℕ). b ∷ l) (filled_parts m n bs) ∙ ap (λ (j : ℕ). filled j (b ∷ bs)) (sym (suc-add m n))

take_filled : (m : ℕ) (bs : List ℕ) → length bs ≤ m → take (length bs) (filled m bs) ≡ bs
unfolding filled
take_filled m [] h = refl
take_filled zero (b ∷ bs) h = absurd (not-suc-le-zero h)
take_filled (suc m) (b ∷ bs) h = ap {B = List ℕ} (λ (l : List ℕ). b ∷ l) (take_filled m bs (le_of_suc-le-suc h))

zeros_behind : (m : ℕ) (bs : List ℕ) → every (λ b. eqb b 0) (drop (length bs) (filled m bs)) ≡ true
unfolding filled every
zeros_behind zero [] = refl
zeros_behind (suc m) [] = zeros_behind m []
zeros_behind zero (b ∷ bs) = refl
zeros_behind (suc m) (b ∷ bs) = zeros_behind m bs

unfilled_filled : (m : ℕ) (bs : List ℕ) → length bs ≤ m → unfilled (length bs) (filled m bs) ≡ done bs
unfolding unfilled
unfilled_filled m bs h = rw (zeros_behind m bs) (ap done (take_filled m bs h))

-- ---- what is judged before the curves

-- what a split that is done passed
pub record Allowed (t n : ℕ) : Type 0 where
  pub some : 1 ≤ t
  pub most : n ≤ 255

pub split_allowed : (secret : List ℕ) (t n : ℕ) (cs shares : List ℕ) → split_verdict secret t n cs ≡ done shares → Allowed t n
unfolding split_verdict quorum_allowed
split_allowed secret t n cs shares e =
    let q = both_hold (leb 1 t) (leb t n && leb n 255) (passed (quorum_allowed t n) _ 19 e).0 in
    record { some = leb-true 1 t q.0; most = leb-true n 255 (both_hold (leb t n) (leb n 255) q.1).1 }

-- a slip of the split, whatever its share is
abbrev pub ButShare : (kind hash key secret : List ℕ) (t n : ℕ) (cs : List ℕ) (v : Slip) → Type 0
ButShare kind hash key secret t n cs v = (share : List ℕ) × OfSplit kind hash key secret t n cs (with_share share v)

same_said : (xs ys zs : List ℕ) → xs ≡ zs → ys ≡ zs → same xs ys ≡ true
same_said xs ys zs e f = ap₂ same e f ∙ same_refl zs

-- all slips of one split say alike
said_alike : (kind hash key secret : List ℕ) (t n : ℕ) (cs : List ℕ) (v w : Slip) → ButShare kind hash key secret t n cs v → ButShare kind hash key secret t n cs w
    → alike v w ≡ true
unfolding alike
said_alike kind hash key secret t n cs v w (x, a) (y, b) =
    hold_both _ _ (same_said _ _ kind a.kind_said b.kind_said)
    (hold_both _ _
    (hold_both _ _ (eq-eqb _ _ (a.threshold_said ∙ sym b.threshold_said))
    (hold_both _ _ (eq-eqb _ _ (a.count_said ∙ sym b.count_said)) (eq-eqb _ _ (a.len_said ∙ sym b.len_said))))
    (hold_both _ _ (same_said _ _ hash a.hash_said b.hash_said) (same_said _ _ key a.key_said b.key_said)))

-- enough slips of a split, with different indices, are judged by their curves
pub judged : (kind hash key secret : List ℕ) (t n : ℕ) (cs : List ℕ) (vs : List Slip) → 1 ≤ t → t ≤ length vs → Each (ButShare kind hash key secret t n cs) vs
    → distinct (map (λ w. w.index) vs) ≡ true
    → combined vs
    ≡ demand (on_curves (blocks_in (length secret)) 0 t vs (drop t vs)) 29
    (unfilled (length secret) (values_at0 (blocks_in (length secret)) 0 t vs))
unfolding combined
judged kind hash key secret t n cs [] h e a d = absurd (omega arith)
judged kind hash key secret t n cs (v ∷ vs) h e a d =
    let (x, m) = a.0 in
    let all : every (alike v) vs ≡ true = each_every (alike v) vs (each_as (λ w b. said_alike kind hash key secret t n cs v w a.0 b) vs a.1) in
    let some : leb v.threshold (suc (length vs)) ≡ true = ap (λ (b : ℕ). leb b (suc (length vs))) m.threshold_said ∙ le-leb t (suc (length vs)) e in
    rw (some, all, d)
    (ap₂ (λ (b l : ℕ). demand (on_curves (blocks_in l) 0 b (v ∷ vs) (drop b (v ∷ vs))) 29 (unfilled l (values_at0 (blocks_in l) 0 b (v ∷ vs))))
    m.threshold_said m.len_said)

-- ---- slips of one split

module _ (kind hash key secret : List ℕ) (t n : ℕ) (cs : List ℕ) (bytes : Bytes secret) (coefficients : Bytes cs) (allowed : Allowed t n) where
  pub mine_value : (k : ℕ) → k < blocks_in (length secret) → (v : Slip) → OfSplit kind hash key secret t n cs v
      → block_of k v ≡ value_at (curve_at k (t - 1) secret cs) v.index
  unfolding block_of
  mine_value k h v m =
      ap (λ (l : List ℕ). block (drop (k * 16) l)) m.share_there
      ∙ share_block (t - 1) secret cs bytes coefficients (blocks_in (length secret)) k v.index h

  pub mine_apart : (k : ℕ) (vs : List Slip) → Each (OfSplit kind hash key secret t n cs) vs → distinct (map (λ w. w.index) vs) ≡ true → Apart (points k vs)
  unfolding points
  mine_apart k vs a d =
      apart_places (λ v. v.index) (block_of k) vs (each_as (λ v m. omega (arith, m.last, allowed.most)) vs a) d

  pub mine_on : (k : ℕ) → k < blocks_in (length secret) → (vs : List Slip) → Each (OfSplit kind hash key secret t n cs) vs
      → On (curve_at k (t - 1) secret cs) (points k vs)
  unfolding points
  mine_on k h vs a = each_on (λ v. v.index) (block_of k) (curve_at k (t - 1) secret cs) vs (each_as (mine_value k h) vs a)

  pub length_curve : (k : ℕ) → length (curve_at k (t - 1) secret cs) ≡ t
  length_curve k = omega (arith, length_blocks (t - 1) (drop (k * ((t - 1) * 16)) cs), allowed.some)

  module _ (vs : List Slip) (mine : Each (OfSplit kind hash key secret t n cs) vs) (enough : t ≤ length vs)
      (d : distinct (map (λ w. w.index) vs) ≡ true) where
    curve_is : (k : ℕ) → k < blocks_in (length secret) → (x : ℕ) → through_at t (points k vs) x ≡ value_at (curve_at k (t - 1) secret cs) x
    curve_is k h x =
        curve_recovered t (curve_at k (t - 1) secret cs) (points k vs) x (length_curve k) (omega (arith, length_points k vs))
        (good_curve (t - 1) secret cs bytes coefficients k) (mine_apart k vs mine d) (mine_on k h vs mine)

    mine_fit : (m k : ℕ) → k + m ≤ blocks_in (length secret) → (further : List Slip) → Each (OfSplit kind hash key secret t n cs) further
        → on_curves m k t vs further ≡ true
    unfolding on_curves
    mine_fit zero k h further a = refl
    mine_fit (suc m) k h further a =
        hold_both _ _
        (each_every (λ w. eqb (through_at t (points k vs) w.index) (block_of k w)) further
        (each_as
        (λ w o. eq-eqb _ _ (curve_is k (omega arith) w.index ∙ sym (mine_value k (omega arith) w o)))
        further a))
        (mine_fit m (suc k) (omega arith) further a)

    values_back : (m k : ℕ) → k + m ≤ blocks_in (length secret) → values_at0 m k t vs ≡ filled (m * 16) (drop (k * 16) secret)
    unfolding values_at0 filled
    values_back zero k h = refl
    values_back (suc m) k h =
        let s = drop (k * 16) secret in
        let more : 16 + m * 16 ≡ suc m * 16 = omega arith in
        let next : k * 16 + 16 ≡ suc k * 16 = omega arith in
        ap₂ ◌++◌
        (ap (big_endian 16) (curve_is k (omega arith) 0 ∙ value_at_none (block s) _) ∙ bytes_of_block s (small_drop 256 (k * 16) secret bytes))
        (values_back m (suc k) (omega arith) ∙ ap (filled (m * 16)) (ap (λ (j : ℕ). drop j secret) (sym next) ∙ sym (drop-drop 16 (k * 16) secret)))
        ∙ filled_parts 16 (m * 16) s ∙ ap (λ (j : ℕ). filled j s) more

    combined_back : combined vs ≡ done secret
    combined_back =
        let b = blocks_in (length secret) in
        judged kind hash key secret t n cs vs allowed.some enough (each_as (λ v m. (v.share, m)) vs mine) d
        ∙ ap (λ (r : Bool). demand r 29 (unfilled (length secret) (values_at0 b 0 t vs))) (mine_fit b 0 (omega arith) (drop t vs) (each_drop _ t vs mine))
        ∙ ap (unfilled (length secret)) (values_back b 0 (omega arith))
        ∙ unfilled_filled (b * 16) secret (omega arith)

-- the secret comes back from as many slips of its split as it needs, or more, in any order
pub secret_back : (kind hash key secret : List ℕ) (t n : ℕ) (cs shares : List ℕ) (vs : List Slip) → Bytes secret → Bytes cs
    → split_verdict secret t n cs ≡ done shares
    → Each (OfSplit kind hash key secret t n cs) vs → t ≤ length vs → distinct (map (λ v. v.index) vs) ≡ true
    → combined vs ≡ done secret
secret_back kind hash key secret t n cs shares vs bytes coefficients split mine enough d =
    combined_back kind hash key secret t n cs bytes coefficients (split_allowed secret t n cs shares split) vs mine enough d
