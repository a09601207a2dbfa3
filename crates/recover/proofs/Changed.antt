-- One slip more than a secret needs tells that a share was changed. Assumes nothing.
use mathlib.Core.Path.{◌≡◌, refl, sym, ap, ap₂, ◌∙◌, subst}
use mathlib.Core.Bool.{Bool, true, false, not}
use mathlib.Core.List.{List, [], ◌∷◌, ◌++◌, map}
use mathlib.Core.Logic.{⊎_elim}
use Prim.Native.Nat.{ℕ, zero, suc, ◌+◌, ◌-◌, ◌*◌, ◌<◌, ◌≤◌}
use native.Mathlib.Omega.{arith}
use lib.Dec.{leb, eqb, lit<}
use lib.ListN.{length, drop, get_or, set, length-append, length-drop, length-set}
use lib.Seq.{drop-drop, get_or-set_same}
use borrow.Author.Tests.{eqb-true}
use Rattle.wire.specs.Answer.{done, refused, demand}
use Rattle.wire.specs.Every.{every, without}
use Rattle.wire.specs.Number.{big_endian, Bytes}
use Rattle.wire.proofs.Both.{hold_both}
use Rattle.wire.proofs.Cases.{lt_or_le, passed, both_hold}
use Rattle.wire.proofs.Digits.{digits_small, small_drop, bytes_none, bytes_append}
use Rattle.field.specs.Element.{block}
use Rattle.field.proofs.Blocks.{block_good}
use Rattle.curve.specs.Curve.{value_at, blocks, through_at}
use Rattle.curve.proofs.Curves.{Good, GoodValues, Apart, Through, good_value, through_them, coefficients, value_coefficients, length_coefficients, good_coefficients, curve_back}
use Rattle.split.specs.Split.{blocks_in, share_of, split_verdict}
use Rattle.split.proofs.Sharing.{length_share}
use Rattle.recover.specs.Recover.{Slip, alike, distinct, block_of, points, on_curves, values_at0, unfilled, combined}
use Rattle.recover.specs.Claims.{Each, OfSplit, with_share}
use Rattle.recover.proofs.Back.{each_as, block_parts, curve_at, good_curve, each_on, apart_places, good_points, length_points, Allowed, split_allowed, ButShare, judged, mine_value, mine_apart, mine_on, length_curve}

-- ---- one of a list changed or left out

module _ {A : Type 0} where
  each_changed : (P Q : A → Type 0) (xs : List A) (y z : A) (ys : List A) → ((x : A) → P x → Q x) → (P y → Q z) → Each P (xs ++ (y ∷ ys)) → Each Q (xs ++ (z ∷ ys))
  each_changed P Q [] y z ys f g e = (g e.0, each_as f ys e.1)
  each_changed P Q (x ∷ xs) y z ys f g e = (f x e.0, each_changed P Q xs y z ys f g e.1)

  each_others : (P : A → Type 0) (xs : List A) (y : A) (ys : List A) → Each P (xs ++ (y ∷ ys)) → Each P (xs ++ ys)
  each_others P [] y ys e = e.1
  each_others P (x ∷ xs) y ys e = (e.0, each_others P xs y ys e.1)

  each_there : (P : A → Type 0) (xs : List A) (y : A) (ys : List A) → Each P (xs ++ (y ∷ ys)) → P y
  each_there P [] y ys e = e.0
  each_there P (x ∷ xs) y ys e = each_there P xs y ys e.1

every_each : {A : Type 0} (test : A → Bool) (xs : List A) → every test xs ≡ true → Each (λ x. test x ≡ true) xs
unfolding every
every_each test [] e = tt
every_each test (x ∷ xs) e = let p = both_hold (test x) (every test xs) e in (p.0, every_each test xs p.1)

without_others : (u : ℕ) (xs : List Slip) (y : Slip) (ys : List Slip) → without u (map (λ v. v.index) (xs ++ (y ∷ ys))) ≡ true → without u (map (λ v. v.index) (xs ++ ys)) ≡ true
unfolding every
without_others u [] y ys e = (both_hold (not (eqb y.index u)) _ e).1
without_others u (x ∷ xs) y ys e = let p = both_hold (not (eqb x.index u)) _ e in hold_both _ _ p.0 (without_others u xs y ys p.1)

distinct_others : (xs : List Slip) (y : Slip) (ys : List Slip) → distinct (map (λ v. v.index) (xs ++ (y ∷ ys))) ≡ true → distinct (map (λ v. v.index) (xs ++ ys)) ≡ true
unfolding distinct
distinct_others [] y ys e = (both_hold (without y.index (map (λ v. v.index) ys)) _ e).1
distinct_others (x ∷ xs) y ys e =
    let p = both_hold (without x.index (map (λ v. v.index) (xs ++ (y ∷ ys)))) _ e in
    hold_both _ _ (without_others x.index xs y ys p.0) (distinct_others xs y ys p.1)

indices_kept : (share : List ℕ) (xs : List Slip) (y : Slip) (ys : List Slip) → map (λ v. v.index) (xs ++ (with_share share y ∷ ys)) ≡ map (λ v. v.index) (xs ++ (y ∷ ys))
indices_kept share [] y ys = refl
indices_kept share (x ∷ xs) y ys = ap {B = List ℕ} (λ (l : List ℕ). x.index ∷ l) (indices_kept share xs y ys)

-- ---- shares are equal where their blocks are

bytes_share : (n more : ℕ) (secret cs : List ℕ) (i : ℕ) → Bytes (share_of n more secret cs i)
unfolding share_of
bytes_share zero more secret cs i = bytes_none
bytes_share (suc n) more secret cs i =
    bytes_append (big_endian 16 (value_at (block secret ∷ blocks more cs) i)) (share_of n more (drop 16 secret) (drop (more * 16) cs) i)
    (digits_small 256 16 (value_at (block secret ∷ blocks more cs) i) (lit< tt))
    (bytes_share n more (drop 16 secret) (drop (more * 16) cs) i)

same_blocks : (n : ℕ) (a b : List ℕ) → Bytes a → Bytes b → length a ≡ n * 16 → length b ≡ n * 16
    → ((k : ℕ) → k < n → block (drop (k * 16) a) ≡ block (drop (k * 16) b)) → a ≡ b
same_blocks zero [] [] p q e f h = refl
same_blocks zero [] (y ∷ b) p q e f h = absurd (omega arith)
same_blocks zero (x ∷ a) b p q e f h = absurd (omega arith)
same_blocks (suc n) a b p q e f h =
    sym (block_parts a p (omega arith))
    ∙ ap₂ (λ (x : ℕ) (l : List ℕ). big_endian 16 x ++ l) (h 0 (omega arith))
    (same_blocks n (drop 16 a) (drop 16 b) (small_drop 256 16 a p) (small_drop 256 16 b q)
    (omega (arith, length-drop 16 a)) (omega (arith, length-drop 16 b))
    (λ k l. at k a ∙ h (suc k) (omega arith) ∙ sym (at k b)))
    ∙ block_parts b q (omega arith)
  where
    at : (k : ℕ) (l : List ℕ) → block (drop (k * 16) (drop 16 l)) ≡ block (drop (suc k * 16) l)
    at k l = let e : 16 + k * 16 ≡ suc k * 16 = omega arith in ap block (drop-drop (k * 16) 16 l ∙ ap (λ (j : ℕ). drop j l) e)

-- ---- slips that pass are on the curve of the first

module _ (t : ℕ) (vs further : List Slip) where
  curves_at : (m k j : ℕ) → on_curves m k t vs further ≡ true → k ≤ j → j < k + m
      → every (λ w. eqb (through_at t (points j vs) w.index) (block_of j w)) further ≡ true
  unfolding on_curves
  curves_at zero k j e h l = absurd (omega arith)
  curves_at (suc m) k j e h l =
      let p = both_hold (every (λ w. eqb (through_at t (points k vs) w.index) (block_of k w)) further) (on_curves m (suc k) t vs further) e in
      ⊎_elim (λ f. curves_at m (suc k) j p.1 f (omega arith))
      (λ f. subst (λ (i : ℕ). every (λ w. eqb (through_at t (points i vs) w.index) (block_of i w)) further ≡ true) (let q : k ≡ j = omega arith in q) p.0)
      (lt_or_le k j)

fit_each : (f : ℕ → ℕ) (k t : ℕ) (vs : List Slip) → Through f t (points k vs) → every (λ w. eqb (f w.index) (block_of k w)) (drop t vs) ≡ true
    → Each (λ w. f w.index ≡ block_of k w) vs
unfolding points
fit_each f k zero vs h e = each_as (λ w q. eqb-true (f w.index) (block_of k w) q) vs (every_each (λ w. eqb (f w.index) (block_of k w)) vs e)
fit_each f k (suc t) [] h e = tt
fit_each f k (suc t) (v ∷ vs) h e = (h.0, fit_each f k t vs h.1 e)

-- ---- a share changed

module _ (kind hash key secret : List ℕ) (t n : ℕ) (cs : List ℕ) (bytes : Bytes secret) (coefficients_bytes : Bytes cs) (allowed : Allowed t n)
    (before after : List Slip) (v : Slip) (share : List ℕ) (mine : Each (OfSplit kind hash key secret t n cs) (before ++ (v ∷ after)))
    (d : distinct (map (λ w. w.index) (before ++ (v ∷ after))) ≡ true) (enough : t ≤ length (before ++ after)) (all : Bytes share) where
  slips : List Slip
  slips = before ++ (with_share share v ∷ after)

  others : Each (OfSplit kind hash key secret t n cs) (before ++ after)
  others = each_others _ before v after mine

  still_distinct : distinct (map (λ w. w.index) slips) ≡ true
  unfolding slips
  still_distinct = ap distinct (indices_kept share before v after) ∙ d

  still_enough : t ≤ length slips
  unfolding slips
  still_enough = omega (arith, length-append before (with_share share v ∷ after), length-append before after)

  still_said : Each (ButShare kind hash key secret t n cs) slips
  unfolding slips
  still_said = each_changed _ _ before v (with_share share v) after (λ w m. (w.share, m)) (λ m. (v.share, m)) mine

  apart_slips : (k : ℕ) → Apart (points k slips)
  unfolding points slips
  apart_slips k =
      apart_places (λ w. w.index) (block_of k) slips
      (each_changed _ _ before v (with_share share v) after (λ w m. omega (arith, m.last, allowed.most)) (λ m. omega (arith, m.last, allowed.most)) mine)
      still_distinct

  good_slips : (k : ℕ) → k < blocks_in (length secret) → GoodValues (points k slips)
  unfolding slips points block_of
  good_slips k h =
      good_points (λ w. w.index) (block_of k) slips
      (each_changed _ _ before v (with_share share v) after
      (λ w m. subst Good (sym (mine_value kind hash key secret t n cs bytes coefficients_bytes allowed k h w m))
      (good_value (curve_at k (t - 1) secret cs) w.index (good_curve (t - 1) secret cs bytes coefficients_bytes k)))
      (λ m. block_good (drop (k * 16) share) (small_drop 256 (k * 16) share all))
      mine)

  -- where the slips are on one curve, that is the curve of the others, on which the share was
  unchanged : (k : ℕ) → k < blocks_in (length secret) → every (λ w. eqb (through_at t (points k slips) w.index) (block_of k w)) (drop t slips) ≡ true
      → block_of k (with_share share v) ≡ block_of k v
  unfolding points slips
  unchanged k h e =
      let ps = points k slips in
      let ds = coefficients t ps in
      let on : Each (λ w. block_of k w ≡ value_at ds w.index) slips =
      each_as (λ w q. sym (value_coefficients t ps w.index ∙ q)) slips
      (fit_each (through_at t ps) k t slips (through_them t ps (apart_slips k) (good_slips k h)) e) in
      let qs = points k (before ++ after) in
      let far : Apart qs = mine_apart kind hash key secret t n cs bytes coefficients_bytes allowed k (before ++ after) others (distinct_others before v after d) in
      let long : t ≤ length qs = omega (arith, length_points k (before ++ after)) in
      let one : ds ≡ curve_at k (t - 1) secret cs =
      sym (curve_back t ds qs (length_coefficients t ps (omega (arith, still_enough, length_points k slips))) long (good_coefficients t ps (good_slips k h)) far
      (each_on (λ w. w.index) (block_of k) ds (before ++ after) (each_others _ before (with_share share v) after on)))
      ∙ curve_back t (curve_at k (t - 1) secret cs) qs (length_curve kind hash key secret t n cs bytes coefficients_bytes allowed k) long
      (good_curve (t - 1) secret cs bytes coefficients_bytes k) far
      (mine_on kind hash key secret t n cs bytes coefficients_bytes allowed k h (before ++ after) others) in
      each_there _ before (with_share share v) after on
      ∙ ap (λ (l : List ℕ). value_at l v.index) one
      ∙ sym (mine_value kind hash key secret t n cs bytes coefficients_bytes allowed k h v (each_there _ before v after mine))

  changed_fails : length share ≡ length v.share → (share ≡ v.share → ⊥)
      → on_curves (blocks_in (length secret)) 0 t slips (drop t slips) ≡ false
  unfolding block_of
  changed_fails long other = go (on_curves (blocks_in (length secret)) 0 t slips (drop t slips)) refl
    where
      mine_v : OfSplit kind hash key secret t n cs v
      mine_v = each_there _ before v after mine

      right : length v.share ≡ blocks_in (length secret) * 16
      right = ap length mine_v.share_there ∙ length_share (blocks_in (length secret)) (t - 1) secret cs v.index

      go : (r : Bool) → on_curves (blocks_in (length secret)) 0 t slips (drop t slips) ≡ r → on_curves (blocks_in (length secret)) 0 t slips (drop t slips) ≡ false
      go false e = e
      go true e =
          absurd (other (same_blocks (blocks_in (length secret)) share v.share all
          (subst Bytes (sym mine_v.share_there) (bytes_share (blocks_in (length secret)) (t - 1) secret cs v.index))
          (long ∙ right) right
          (λ k h. unchanged k h (curves_at t slips (drop t slips) (blocks_in (length secret)) 0 k e (omega arith) (omega arith)))))

  combined_told : length share ≡ length v.share → (share ≡ v.share → ⊥) → combined slips ≡ refused 29
  combined_told long other =
      judged kind hash key secret t n cs slips allowed.some still_enough still_said still_distinct
      ∙ ap (λ (r : Bool). demand r 29 (unfilled (length secret) (values_at0 (blocks_in (length secret)) 0 t slips))) (changed_fails long other)

-- where there is one slip more than the secret needs, another share in any one of them is told
pub changed_told : (kind hash key secret : List ℕ) (t n : ℕ) (cs shares : List ℕ) (before : List Slip) (v : Slip) (after : List Slip) (share : List ℕ)
    → Bytes secret → Bytes cs → split_verdict secret t n cs ≡ done shares
    → Each (OfSplit kind hash key secret t n cs) (before ++ (v ∷ after)) → t < length (before ++ (v ∷ after))
    → distinct (map (λ w. w.index) (before ++ (v ∷ after))) ≡ true
    → Bytes share → length share ≡ length v.share → (share ≡ v.share → ⊥)
    → combined (before ++ (with_share share v ∷ after)) ≡ refused 29
unfolding slips
changed_told kind hash key secret t n cs shares before v after share bytes coefficients_bytes split mine more d all long other =
    combined_told kind hash key secret t n cs bytes coefficients_bytes (split_allowed secret t n cs shares split) before after v share mine d
    (omega (arith, length-append before (v ∷ after), length-append before after)) all long other

bytes_set : (l : List ℕ) (j b : ℕ) → Bytes l → b < 256 → Bytes (set l j b)
bytes_set [] j b all h i = all i
bytes_set (x ∷ l) zero b all h zero = h
bytes_set (x ∷ l) zero b all h (suc i) = all (suc i)
bytes_set (x ∷ l) (suc j) b all h zero = all 0
bytes_set (x ∷ l) (suc j) b all h (suc i) = bytes_set l j b (λ k. all (suc k)) h i

-- also a share that differs in one byte
pub changed_byte_told : (kind hash key secret : List ℕ) (t n : ℕ) (cs shares : List ℕ) (before : List Slip) (v : Slip) (after : List Slip) (j b : ℕ)
    → Bytes secret → Bytes cs → split_verdict secret t n cs ≡ done shares
    → Each (OfSplit kind hash key secret t n cs) (before ++ (v ∷ after)) → t < length (before ++ (v ∷ after))
    → distinct (map (λ w. w.index) (before ++ (v ∷ after))) ≡ true
    → j < length v.share → b < 256 → (b ≡ get_or v.share j 0 → ⊥)
    → combined (before ++ (with_share (set v.share j b) v ∷ after)) ≡ refused 29
changed_byte_told kind hash key secret t n cs shares before v after j b bytes coefficients_bytes split mine more d h l ne =
    let own : Bytes v.share = subst Bytes (sym (each_there _ before v after mine).share_there) (bytes_share (blocks_in (length secret)) (t - 1) secret cs v.index) in
    changed_told kind hash key secret t n cs shares before v after (set v.share j b) bytes coefficients_bytes split mine more d
    (bytes_set v.share j b own l) (length-set v.share j b)
    (λ e. ne (sym (get_or-set_same v.share j b 0 h) ∙ ap (λ (s : List ℕ). get_or s j 0) e))

-- ---- of any slips

-- For the reader: where a secret is recovered, each slip is on the curves that gave it
pub done_fits : (v : Slip) (vs : List Slip) (s : List ℕ) → Each (λ w. (w.index < 256) × Bytes w.share) (v ∷ vs) → combined (v ∷ vs) ≡ done s
    → (k : ℕ) → k < blocks_in v.len → Each (λ w. through_at v.threshold (points k (v ∷ vs)) w.index ≡ block_of k w) (v ∷ vs)
unfolding combined points block_of
done_fits v vs s a e k h =
    let ws = v ∷ vs in
    let t = v.threshold in
    let ps = points k ws in
    let some = passed (leb t (suc (length vs))) _ 26 e in
    let same = passed (every (alike v) vs) _ 27 some.1 in
    let far = passed (distinct (map (λ w. w.index) ws)) _ 28 same.1 in
    let fit = passed (on_curves (blocks_in v.len) 0 t ws (drop t ws)) _ 29 far.1 in
    fit_each (through_at t ps) k t ws
    (through_them t ps (apart_places (λ w. w.index) (block_of k) ws (each_as (λ w b. b.0) ws a) far.0)
    (good_points (λ w. w.index) (block_of k) ws (each_as (λ w b. block_good (drop (k * 16) w.share) (small_drop 256 (k * 16) w.share b.1)) ws a)))
    (curves_at t ws (drop t ws) (blocks_in v.len) 0 k fit.0 (omega arith) (omega arith))
