-- The turns of the loops over points. Assumes nothing.
use mathlib.Core.Path.{◌≡◌, refl, sym, ap, ap₂, ◌∙◌, subst}
use mathlib.Core.Bool.{Bool, true, false, not, false≢true}
use Rattle.wire.proofs.Cases.{said_yes, said_no}
use mathlib.Core.List.{List, [], ◌∷◌, ◌++◌, map}
use Prim.Native.Nat.{ℕ, zero, suc, ◌+◌, ◌-◌, ◌^◌, ◌<◌, ◌≤◌}
use native.Mathlib.Numerals.{add-one}
use native.Mathlib.Omega.{arith}
use borrow.Author.Tests.{eq-eqb, ne_eqb}
use lib.Bits.{bit_xor}
use lib.Dec.{eqb}
use lib.ListN.{length, get_or, take, drop, set, length-map, drop_of_length-le}
use lib.Seq.{drop-cons, take-suc, take-suc-set, take_all}
use Rattle.wire.specs.Every.{every}
use Rattle.wire.proofs.Everys.{every_on, every_stop, every_end}
use Rattle.curve.specs.Curve.{through_at}
use Rattle.field.specs.Field.{plus, product, over}
use Rattle.field.specs.Element.{joined, halves}
use Rattle.field.proofs.Elements.{joined_halves}
use Rattle.recover.specs.Recover.{points, block_of}
use Rattle.recover.specs.Private.{slip_in, places, differences, left, newton_at, xs_of, ds_of, Laid, fits_in, fitting, kept}
use Rattle.std.specs.Prelude.{Some}
use lib.Pointwise.{pointwise, bytes_decides}
use Rattle.recover.specs.declared.newton.Point.{Point}
use Rattle.recover.proofs.Differences.{differences_snoc, left_at, newton_through}

-- ---- what is left of a value

module _ (ps : List Point) (x : ℕ) (z : Point) where
  pub left_on : (k : ℕ) → k < length ps → (rest s q : List ℕ) {t : ℕ} → s ≡ halves (plus (joined rest) (joined (get_or ps k z).d))
      → q ≡ halves (over (joined s) (bit_xor x (get_or ps k z).x))
      → left (xs_of (drop k ps)) (ds_of (drop k ps)) x (joined rest) ≡ t
      → left (xs_of (drop (k + 1) ps)) (ds_of (drop (k + 1) ps)) x (joined q) ≡ t
  unfolding left
  left_on k h rest s q e f i =
      ap₂ (λ (j y : ℕ). left (xs_of (drop j ps)) (ds_of (drop j ps)) x y) (add-one k)
      (ap joined f ∙ joined_halves (over (joined s) (bit_xor x (get_or ps k z).x))
      ∙ ap (λ (y : ℕ). over y (bit_xor x (get_or ps k z).x)) (ap joined e ∙ joined_halves (plus (joined rest) (joined (get_or ps k z).d))))
      ∙ sym (ap (λ (us : List Point). left (xs_of us) (ds_of us) x (joined rest)) (drop-cons ps k z h))
      ∙ i

  -- ---- the value by the differences

  pub value_on : (k : ℕ) → 0 < k → k ≤ length ps → (made p s : List ℕ) → joined made ≡ newton_at (xs_of (drop k ps)) (ds_of (drop k ps)) x
      → p ≡ halves (product (joined made) (bit_xor x (get_or ps (k - 1) z).x)) → s ≡ halves (plus (joined (get_or ps (k - 1) z).d) (joined p))
      → joined s ≡ newton_at (xs_of (drop (k - 1) ps)) (ds_of (drop (k - 1) ps)) x
  unfolding newton_at
  value_on k h l made p s i e f =
      let j : suc (k - 1) ≡ k = omega arith in
      ap joined f ∙ joined_halves (plus (joined (get_or ps (k - 1) z).d) (joined p))
      ∙ ap (plus (joined (get_or ps (k - 1) z).d))
      (ap joined e ∙ joined_halves (product (joined made) (bit_xor x (get_or ps (k - 1) z).x))
      ∙ ap (λ (y : ℕ). product y (bit_xor x (get_or ps (k - 1) z).x))
      (i ∙ ap (λ (m : ℕ). newton_at (xs_of (drop m ps)) (ds_of (drop m ps)) x) (sym j)))
      ∙ sym (ap (λ (us : List Point). newton_at (xs_of us) (ds_of us) x) (drop-cons ps (k - 1) z (omega arith)))

module _ (ps : List Point) (x : ℕ) where
  pub left_end : (k : ℕ) → length ps ≤ k → (rest : List ℕ) {t : ℕ} → left (xs_of (drop k ps)) (ds_of (drop k ps)) x (joined rest) ≡ t → joined rest ≡ t
  unfolding left
  left_end k h rest i = sym (ap (λ (us : List Point). left (xs_of us) (ds_of us) x (joined rest)) (drop_of_length-le ps {i = k} h)) ∙ i

  pub value_start : 0 ≡ newton_at (xs_of (drop (length ps) ps)) (ds_of (drop (length ps) ps)) x
  unfolding newton_at
  value_start = sym (ap (λ (us : List Point). newton_at (xs_of us) (ds_of us) x) (drop_of_length-le ps {i = length ps} (omega arith)))

-- ---- elements compared half by half

pub elements_compared : (a b : List ℕ) → length a ≡ 2 → length b ≡ 2 → get_or a 1 0 < 2 ^ 64 → get_or b 1 0 < 2 ^ 64 → pointwise eqb a b ≡ eqb (joined a) (joined b)
elements_compared a b m n h k = go (pointwise eqb a b) refl
  where
    two : (l : List ℕ) → length l ≡ 2 → l ≡ get_or l 0 0 ∷ get_or l 1 0 ∷ []
    two [] e = absurd (omega arith)
    two (x ∷ []) e = absurd (omega arith)
    two (x ∷ y ∷ []) e = refl
    two (x ∷ y ∷ z ∷ l) e = absurd (omega arith)

    go : (t : Bool) → pointwise eqb a b ≡ t → t ≡ eqb (joined a) (joined b)
    go true f = sym (eq-eqb (joined a) (joined b) (ap joined ((bytes_decides a b).0 f)))
    go false f =
        sym (ne_eqb (joined a) (joined b)
        (λ e. false≢true (sym f ∙ (bytes_decides a b).1 (two a m ∙ ap₂ {C = List ℕ} (λ (x y : ℕ). x ∷ y ∷ []) (omega arith) (omega arith) ∙ sym (two b n)))))

-- ---- one point more

point_at : (k : ℕ) (slips : List (List ℕ)) (i : ℕ) → i < length slips
    → get_or (points k (map slip_in slips)) i (0, 0) ≡ ((slip_in (get_or slips i [])).index, block_of k (slip_in (get_or slips i [])))
unfolding points
point_at k [] i h = absurd (omega arith)
point_at k (p ∷ ps) zero h = refl
point_at k (p ∷ ps) (suc i) h = point_at k ps i (omega arith)

pub points_long : (k : ℕ) (slips : List (List ℕ)) → length (points k (map slip_in slips)) ≡ length slips
unfolding points
points_long k [] = refl
points_long k (p ∷ ps) = ap suc (points_long k ps)

map_append : {A : Type 0} (f : A → ℕ) (xs ys : List A) → map f (xs ++ ys) ≡ map f xs ++ map f ys
map_append f [] ys = refl
map_append f (x ∷ xs) ys = ap {B = List ℕ} (λ (l : List ℕ). f x ∷ l) (map_append f xs ys)

places_at : (ps : List (ℕ × ℕ)) (i : ℕ) → i < length ps → get_or (places ps) i 0 ≡ (get_or ps i (0, 0)).0
places_at [] i h = absurd (omega arith)
places_at (p ∷ ps) zero h = refl
places_at (p ∷ ps) (suc i) h = places_at ps i (omega arith)

pub laid_none : (ps : List (ℕ × ℕ)) (laid : List Point) → Laid 0 ps laid
unfolding differences
laid_none ps laid = record { at = refl; by = refl }

module _ (k : ℕ) (slips : List (List ℕ)) (i : ℕ) (l : i < length slips) (curve : List Point) (a : i < length curve) (laid : Laid i (points k (map slip_in slips)) curve) where
  -- payload i is the next point
  pub laid_on : (p : List ℕ) → p ≡ get_or slips i [] → (x : ℕ) → x ≡ (slip_in p).index → (y : List ℕ) → joined y ≡ block_of k (slip_in p)
      → (d : List ℕ) → joined d ≡ left (xs_of (take i curve)) (ds_of (take i curve)) x (joined y)
      → Laid (i + 1) (points k (map slip_in slips)) (set curve i (record { x = x; d = d }))
  laid_on p e x f y g d h =
      let ps = points k (map slip_in slips) in
      let new : Point = record { x = x; d = d } in
      let long : i < length ps = omega (arith, points_long k slips) in
      let there : get_or ps i (0, 0) ≡ (x, joined y) =
      point_at k slips i l
      ∙ ap (λ (w : List ℕ). ((slip_in w).index, block_of k (slip_in w))) (sym e)
      ∙ ap₂ {C = ℕ × ℕ} (λ (s t : ℕ). (s, t)) (sym f) (sym g) in
      let made : joined d ≡ left_at i ps =
      h
      ∙ ap₂ (λ (ws : List ℕ) (fs : List ℕ). left ws fs x (joined y)) laid.at laid.by
      ∙ ap (λ (w : ℕ × ℕ). left (take i (places ps)) (differences i ps) w.0 w.1) (sym there) in
      record {
        at =
            ap (λ (j : ℕ). xs_of (take j (set curve i new))) (add-one i)
            ∙ ap xs_of (take-suc-set curve i new a)
            ∙ map_append (λ (w : Point). w.x) (take i curve) (new ∷ [])
            ∙ ap₂ (λ (w : List ℕ) (t : ℕ). w ++ (t ∷ [])) laid.at (ap (λ (w : ℕ × ℕ). w.0) (sym there) ∙ sym (places_at ps i long))
            ∙ sym (take-suc (places ps) i 0 (omega (arith, length-map ps (λ w. w.0))))
            ∙ ap (λ (j : ℕ). take j (places ps)) (sym (add-one i));
        by =
            ap (λ (j : ℕ). ds_of (take j (set curve i new))) (add-one i)
            ∙ ap ds_of (take-suc-set curve i new a)
            ∙ map_append (λ (w : Point). joined w.d) (take i curve) (new ∷ [])
            ∙ ap₂ (λ (w : List ℕ) (t : ℕ). w ++ (t ∷ [])) laid.by made
            ∙ sym (differences_snoc i ps long)
            ∙ ap (λ (j : ℕ). differences j ps) (sym (add-one i));
      }

pub laid_all : (i t : ℕ) (ps : List (ℕ × ℕ)) (curve : List Point) → i ≤ t → t ≤ i → Laid i ps curve → Laid t ps curve
laid_all i t ps curve h k l = subst (λ (j : ℕ). Laid j ps curve) (let e : i ≡ t = omega arith in e) l

-- ---- a slip on the curve

-- the value by the points is that of the curve through the slips
pub laid_value : (ps : List (ℕ × ℕ)) (curve : List Point) (laid : Laid (length curve) ps curve) (x : ℕ) → newton_at (xs_of curve) (ds_of curve) x ≡ through_at (length curve) ps x
laid_value ps curve laid x =
    let all : take (length curve) curve ≡ curve = take_all (length curve) curve (omega arith) in
    ap₂ (λ (us ws : List ℕ). newton_at us ws x) (sym (ap xs_of all) ∙ laid.at) (sym (ap ds_of all) ∙ laid.by)
    ∙ newton_through (length curve) ps x

-- block k, found by the curve
pub block_found : (n k : ℕ) (slips : List (List ℕ)) (curve : List Point) → length curve ≡ n → Laid n (points k (map slip_in slips)) curve
    → (f : Bool) → f ≡ fitting (length curve) k slips → f ≡ true → (v : List ℕ) → joined v ≡ newton_at (xs_of curve) (ds_of curve) 0
    → Some (joined v) ≡ kept (fitting n k slips) (through_at n (points k (map slip_in slips)) 0)
block_found n k slips curve q laid f e h v g =
    let ps = points k (map slip_in slips) in
    let l : Laid (length curve) ps curve = subst (λ (j : ℕ). Laid j ps curve) (sym q) laid in
    ap Some (g ∙ laid_value ps curve l 0)
    ∙ ap (λ (b : Bool). kept b (through_at (length curve) ps 0)) (sym (sym e ∙ h))
    ∙ ap (λ (j : ℕ). kept (fitting j k slips) (through_at j ps 0)) q

module _ (k : ℕ) (slips : List (List ℕ)) (i : ℕ) (l : i < length slips) (curve : List Point)
    (laid : Laid (length curve) (points k (map slip_in slips)) curve) (p : List ℕ) (e : p ≡ get_or slips i []) (x : ℕ) (f : x ≡ (slip_in p).index)
    (there : List ℕ) (g : joined there ≡ newton_at (xs_of curve) (ds_of curve) x) (y : List ℕ) (h : joined y ≡ block_of k (slip_in p)) (r : Bool) (s : eqb (joined there) (joined y) ≡ r)
    (whole : fitting (length curve) k slips ≡ every (fits_in (length curve) k slips) (drop i slips)) where
  on_it : fits_in (length curve) k slips (get_or slips i []) ≡ r
  on_it =
      let ps = points k (map slip_in slips) in
      ap (fits_in (length curve) k slips) (sym e)
      ∙ sym (ap₂ eqb (g ∙ laid_value ps curve laid x ∙ ap (through_at (length curve) ps) f) h)
      ∙ s

  pub fits_on : not r ≡ false → fitting (length curve) k slips ≡ every (fits_in (length curve) k slips) (drop (i + 1) slips)
  fits_on z = whole ∙ every_on _ slips i [] l (on_it ∙ said_yes r r refl z)

  pub fits_stop : not r ≡ true → false ≡ fitting (length curve) k slips
  fits_stop z = sym (whole ∙ every_stop _ slips i [] l (on_it ∙ said_no r r refl z))

pub fits_end : (t k : ℕ) (slips : List (List ℕ)) (i : ℕ) → length slips ≤ i → fitting t k slips ≡ every (fits_in t k slips) (drop i slips) → true ≡ fitting t k slips
fits_end t k slips i h e = sym (e ∙ every_end _ slips i h)
