-- The two characters of a check: when they are right, and which changes of a line leave them wrong.
-- Assumes nothing.
use Prim.Native.Nat.{ℕ, zero, suc, ◌+◌, ◌-◌, ◌*◌, ◌/◌, ◌%◌, ◌≤◌, ◌<◌}
use mathlib.Core.Path.{◌≡◌, refl, sym, ap, ap₂, ◌∙◌}
use mathlib.Core.Logic.{◌⊎◌, inl, inr}
use mathlib.Core.Bool.{Bool, true, false, not, ◌&&◌}
use mathlib.Core.List.{List, [], ◌∷◌, ◌++◌, append_assoc}
use native.Mathlib.Nat.{zero-add, add_comm, mul-mod_right, mul-le-mul, mul-le-mul_left, mul-sub, le_of_lt, le-mul_of_pos_right}
use native.Mathlib.Omega.{arith}
use borrow.Author.Tests.{eq-eqb, eqb-true, eqb-false, not-true}
use lib.Dec.{eqb}
use lib.ListN.{length, get_or, length-append}
use lib.Seq.{take_at, get_or_at, get_or-append-add, append_snoc}
use Rattle.wire.proofs.Cases.{both_hold, lt_or_le}
use Rattle.wire.proofs.Both.{hold_both}
use Rattle.text.specs.Text.{zbase32, value, letter}
use Rattle.typed.specs.Typed.{full_data, full_line, is_letter, weighed, check_of, check_letters, data_of, right, with_check}
use Rattle.typed.proofs.Letters.{value_small, value_once, letter_once}

-- ---- a list and its last elements

last_one : (l : List ℕ) → 1 ≤ length l → (ds : List ℕ) × (x : ℕ) × (l ≡ ds ++ (x ∷ []))
last_one [] h = absurd (omega arith)
last_one (x ∷ []) h = ([], x, refl)
last_one (x ∷ (y ∷ l)) h =
    let (ds, z, e) = last_one (y ∷ l) (omega arith) in
    (x ∷ ds, z, ap (λ (r : List ℕ). x ∷ r) e)

last_two : (l : List ℕ) → 2 ≤ length l → (ds : List ℕ) × (x : ℕ) × (y : ℕ) × (l ≡ ds ++ (x ∷ y ∷ []))
last_two l h =
    let (es, y, e) = last_one l (omega arith) in
    let (ds, x, f) = last_one es (omega (arith, ap length e, length-append es (y ∷ []))) in
    (ds, x, y, e ∙ ap (λ (q : List ℕ). q ++ (y ∷ [])) f ∙ append_snoc ds x (y ∷ []))

-- ---- a line that is data and a check

module _ (ds : List ℕ) (x y : ℕ) where
  data_is : data_of (ds ++ (x ∷ y ∷ [])) ≡ ds
  unfolding data_of
  data_is = take_at ds (x ∷ y ∷ []) (length (ds ++ (x ∷ y ∷ [])) - 2) (omega (arith, length-append ds (x ∷ y ∷ [])))

  right_is : (n : ℕ)
      → right n (ds ++ (x ∷ y ∷ [])) ≡ (eqb x (letter zbase32 (check_of n ds / 32)) && eqb y (letter zbase32 (check_of n ds % 32)))
  unfolding right
  right_is n =
      let l : List ℕ = ds ++ (x ∷ y ∷ []) in
      let k : length l ≡ length ds + 2 = length-append ds (x ∷ y ∷ []) in
      let first : get_or l (length l - 2) 0 ≡ x = get_or_at ds x (y ∷ []) 0 (length l - 2) (omega arith) in
      let at : length l - 1 ≡ length ds + 1 = omega arith in
      let second : get_or l (length l - 1) 0 ≡ y = ap (λ (i : ℕ). get_or l i 0) at ∙ get_or-append-add ds (x ∷ y ∷ []) 1 0 in
      rw (first, second, data_is)

  right_letters : (n : ℕ) → right n (ds ++ (x ∷ y ∷ [])) ≡ true
      → (x ≡ letter zbase32 (check_of n ds / 32)) × (y ≡ letter zbase32 (check_of n ds % 32))
  right_letters n h =
      let b = both_hold (eqb x (letter zbase32 (check_of n ds / 32))) _ (sym (right_is n) ∙ h) in
      (eqb-true x _ b.0, eqb-true y _ b.1)

-- a line is right whose check was made for it, and no other
pub check_right : (n : ℕ) (ds : List ℕ) → right n (with_check n ds) ≡ true
unfolding check_letters
check_right n ds =
    right_is ds _ _ n ∙ hold_both _ _ (eq-eqb (letter zbase32 (check_of n ds / 32)) _ refl) (eq-eqb (letter zbase32 (check_of n ds % 32)) _ refl)

pub check_data : (n : ℕ) (ds : List ℕ) → data_of (with_check n ds) ≡ ds
unfolding check_letters
check_data n ds = data_is ds _ _

pub right_check : (n : ℕ) (l : List ℕ) → 2 ≤ length l → right n l ≡ true → with_check n (data_of l) ≡ l
unfolding check_letters
right_check n l k h =
    let (ds, x, y, e) = last_two l k in
    let b = right_letters ds x y n (ap (right n) (sym e) ∙ h) in
    rw (e, data_is ds x y) (ap₂ (λ (v w : ℕ). ds ++ (v ∷ w ∷ [])) (sym b.0) (sym b.1))

pub check_small : (n : ℕ) (ds : List ℕ) → check_of n ds < 1021
unfolding check_of
check_small n ds = omega arith

-- two lines whose checks are the same characters, both right
same_check : (n m : ℕ) (ds es : List ℕ) (x y : ℕ) → right n (ds ++ (x ∷ y ∷ [])) ≡ true → right m (es ++ (x ∷ y ∷ [])) ≡ true
    → check_of n ds ≡ check_of m es
same_check n m ds es x y h k =
    let a = right_letters ds x y n h in
    let b = right_letters es x y m k in
    let s : check_of n ds < 1021 = check_small n ds in
    let t : check_of m es < 1021 = check_small m es in
    let q : check_of n ds / 32 ≡ check_of m es / 32 = letter_once _ _ (omega arith) (omega arith) (sym a.0 ∙ b.0) in
    let r : check_of n ds % 32 ≡ check_of m es % 32 = letter_once _ _ (omega arith) (omega arith) (sym a.1 ∙ b.1) in
    omega arith

-- ---- the sum of a line

weighed_append : (p : ℕ) (xs ys : List ℕ) → weighed p (xs ++ ys) ≡ weighed p xs + weighed (length xs + p) ys
unfolding weighed
weighed_append p [] ys = rw (zero-add p) (sym (zero-add (weighed p ys)))
weighed_append p (x ∷ xs) ys =
    let e : length xs + suc p ≡ suc (length xs) + p = omega arith in
    ap (λ (w : ℕ). p * value zbase32 x + w) (weighed_append (suc p) xs ys ∙ ap (λ (q : ℕ). weighed (suc p) xs + weighed q ys) e)
    ∙ omega arith

-- ---- 1021 is no product of a place and a difference of values

-- none of 2, 3, .. up to k + 1 divides 1021
abbrev undivided : ℕ → Bool
undivided zero = true
undivided (suc k) = not (eqb (1021 % suc (suc k)) 0) && undivided k

undivided_at : (k p : ℕ) → undivided k ≡ true → 2 ≤ p → p < k + 2 → 1021 % p ≡ 0 → ⊥
undivided_at zero p t l h e = omega arith
undivided_at (suc k) p t l h e = go (lt_or_le p (k + 2)) (both_hold (not (eqb (1021 % suc (suc k)) 0)) (undivided k) t) (undivided_at k p)
  where
    go : (p < k + 2) ⊎ (k + 2 ≤ p) → (not (eqb (1021 % suc (suc k)) 0) ≡ true) × (undivided k ≡ true)
        → (undivided k ≡ true → 2 ≤ p → p < k + 2 → 1021 % p ≡ 0 → ⊥) → ⊥
    go (inl q) b before = before b.1 l q e
    go (inr q) b before =
        let same : suc (suc k) ≡ p = omega arith in
        eqb-false (1021 % suc (suc k)) 0 (not-true _ b.0) (ap (λ (m : ℕ). 1021 % m) same ∙ e)

-- the one computed test, of 2 to 40
no_product : (p k : ℕ) → p ≤ 40 → k < 32 → p * k ≡ 1021 → ⊥
no_product p k h l e = go (lt_or_le p 2)
  where
    go : (p < 2) ⊎ (2 ≤ p) → ⊥
    go (inl q) =
        let one : p ≤ 1 = omega arith in
        omega (arith, mul-le-mul one l, e)
    go (inr q) = undivided_at 39 p refl q (omega arith) (ap (λ (m : ℕ). m % p) (sym e) ∙ mul-mod_right p k)

-- so a sum tells two values at one place from each other
grows : (w p k : ℕ) → 1 ≤ p → p ≤ 40 → k < 32 → w % 1021 ≡ (w + p * k) % 1021 → k ≡ 0
grows w p k a h l e = go (lt_or_le (p * k) 1)
  where
    go : (p * k < 1) ⊎ (1 ≤ p * k) → k ≡ 0
    go (inl q) = omega (arith, le-mul_of_pos_right k a)
    go (inr q) =
        let least : k ≤ 31 = omega arith in
        absurd (no_product p k h l (omega (arith, mul-le-mul h least)))

told_apart : (w p x y : ℕ) → 1 ≤ p → p ≤ 40 → x < 32 → y < 32 → (w + p * x) % 1021 ≡ (w + p * y) % 1021 → x ≡ y
told_apart w p x y a h hx hy e = go (lt_or_le x y)
  where
    go : (x < y) ⊎ (y ≤ x) → x ≡ y
    go (inl q) =
        let up : w + p * x + p * (y - x) ≡ w + p * y = omega (arith, mul-sub p y x, mul-le-mul_left p (le_of_lt q)) in
        omega (arith, grows (w + p * x) p (y - x) a h (omega arith) (e ∙ ap (λ (m : ℕ). m % 1021) (sym up)))
    go (inr q) =
        let up : w + p * y + p * (x - y) ≡ w + p * x = omega (arith, mul-sub p x y, mul-le-mul_left p q) in
        omega (arith, grows (w + p * y) p (x - y) a h (omega arith) (sym e ∙ ap (λ (m : ℕ). m % 1021) (sym up)))

-- ---- lines of which one is not right where the other is

fails : (t : Bool) → (t ≡ true → ⊥) → t ≡ false
fails true h = absurd (h refl)
fails false h = refl

-- the same two last characters, behind data of another check
other_check : (n m : ℕ) (ds es : List ℕ) (x y : ℕ) → right n (ds ++ (x ∷ y ∷ [])) ≡ true → (check_of n ds ≡ check_of m es → ⊥)
    → right m (es ++ (x ∷ y ∷ [])) ≡ false
other_check n m ds es x y h apart = fails _ (λ k. apart (same_check n m ds es x y h k))

-- the same line under two numbers
pub number_wrong : (n k : ℕ) (l : List ℕ) → 2 ≤ length l → 1 ≤ k → k ≤ 19 → right (n + k) l ≡ true → right n l ≡ false
unfolding check_of
number_wrong n k l h a b r =
    let (ds, x, y, e) = last_two l h in
    ap (right n) e
    ∙ other_check (n + k) n ds ds x y (ap (right (n + k)) (sym e) ∙ r) (λ same. moved (weighed 1 ds + 41 * n) (41 * k) (omega arith) (omega arith) (sym same ∙ ap (λ (w : ℕ). w % 1021) (omega arith)))
  where
    -- 41 for each line is less than 1021 for 19 of them
    moved : (w m : ℕ) → 1 ≤ m → m < 1021 → w % 1021 ≡ (w + m) % 1021 → ⊥
    moved w m a b e = omega arith

-- one letter for another
module _ (n : ℕ) (a r : List ℕ) (c d : ℕ) (hc : is_letter c ≡ true) (hd : is_letter d ≡ true) (ne : c ≡ d → ⊥) (good : right n (a ++ (c ∷ r)) ≡ true) where
  -- what the other characters add, and the number
  abbrev around : List ℕ → ℕ
  around ds = weighed 1 a + weighed (suc (length a + 1)) ds + 41 * n

  at_place : (ds : List ℕ) (e : ℕ) → check_of n (a ++ (e ∷ ds)) ≡ (around ds + (length a + 1) * value zbase32 e) % 1021
  unfolding weighed check_of
  at_place ds e = ap (λ (w : ℕ). w % 1021) (omega (arith, weighed_append 1 a (e ∷ ds)))

  -- among the data
  pub letter_wrong : length (a ++ (c ∷ r)) ≤ full_line → 2 ≤ length r → right n (a ++ (d ∷ r)) ≡ false
  letter_wrong short two =
      let (ds, x, y, e) = last_two r two in
      let whole : (z : ℕ) → a ++ (z ∷ r) ≡ a ++ (z ∷ ds) ++ (x ∷ y ∷ []) = λ z. ap (λ (q : List ℕ). a ++ (z ∷ q)) e ∙ sym (append_assoc a (z ∷ ds) (x ∷ y ∷ [])) in
      let place : length a + 1 ≤ full_data = omega (arith, length-append a (c ∷ r)) in
      ap (right n) (whole d)
      ∙ other_check n n (a ++ (c ∷ ds)) (a ++ (d ∷ ds)) x y (ap (right n) (sym (whole c)) ∙ good)
      (λ same. ne (value_once c d hc hd
      (told_apart (around ds) (length a + 1) _ _ (omega arith) place (value_small c hc) (value_small d hd)
      (sym (at_place ds c) ∙ same ∙ at_place ds d))))

  -- in the check
  pub check_wrong : 2 ≤ length (a ++ (c ∷ r)) → length r < 2 → right n (a ++ (d ∷ r)) ≡ false
  check_wrong long few = go r good long few
    where
      go : (r : List ℕ) → right n (a ++ (c ∷ r)) ≡ true → 2 ≤ length (a ++ (c ∷ r)) → length r < 2 → right n (a ++ (d ∷ r)) ≡ false
      go [] h l s =
          let (ds, x, e) = last_one a (omega (arith, length-append a (c ∷ []))) in
          let whole : (z : ℕ) → a ++ (z ∷ []) ≡ ds ++ (x ∷ z ∷ []) = λ z. ap (λ (q : List ℕ). q ++ (z ∷ [])) e ∙ append_snoc ds x (z ∷ []) in
          let old = right_letters ds x c n (ap (right n) (sym (whole c)) ∙ h) in
          ap (right n) (whole d) ∙ fails _ (λ k. ne (old.1 ∙ sym (right_letters ds x d n k).1))
      go (y ∷ []) h l s = fails _ (λ k. ne ((right_letters a c y n h).0 ∙ sym (right_letters a d y n k).0))
      go (y ∷ (z ∷ q)) h l s = absurd (omega arith)

-- two letters of the data in each other's place
module _ (n : ℕ) (a m r : List ℕ) (c d : ℕ) (hc : is_letter c ≡ true) (hd : is_letter d ≡ true) (ne : c ≡ d → ⊥) (good : right n (a ++ (c ∷ (m ++ (d ∷ r)))) ≡ true) where
  -- what the other characters add, and the number, and both letters at the first place
  abbrev beside : List ℕ → ℕ
  beside ds =
      weighed 1 a
      + weighed (suc (length a + 1)) m
      + weighed (suc (length m + suc (length a + 1))) ds
      + 41 * n
      + (length a + 1) * (value zbase32 c + value zbase32 d)

  -- so the second letter adds its value for each place between them
  at_places : (ds : List ℕ) (e f : ℕ) → value zbase32 e + value zbase32 f ≡ value zbase32 c + value zbase32 d
      → check_of n (a ++ (e ∷ (m ++ (f ∷ ds)))) ≡ (beside ds + (length m + 1) * value zbase32 f) % 1021
  unfolding weighed check_of
  at_places ds e f both =
      ap (λ (w : ℕ). w % 1021)
      (omega (arith, weighed_append 1 a (e ∷ (m ++ (f ∷ ds))), weighed_append (suc (length a + 1)) m (f ∷ ds), ap (λ (v : ℕ). (length a + 1) * v) both))

  pub exchange_wrong : length (a ++ (c ∷ (m ++ (d ∷ r)))) ≤ full_line → 2 ≤ length r → right n (a ++ (d ∷ (m ++ (c ∷ r)))) ≡ false
  exchange_wrong short two =
      let (ds, x, y, e) = last_two r two in
      let whole : (v w : ℕ) → a ++ (v ∷ (m ++ (w ∷ r))) ≡ a ++ (v ∷ (m ++ (w ∷ ds))) ++ (x ∷ y ∷ []) =
      λ v w. ap (λ (q : List ℕ). a ++ (v ∷ q)) (ap (λ (q : List ℕ). m ++ (w ∷ q)) e ∙ sym (append_assoc m (w ∷ ds) (x ∷ y ∷ []))) ∙ sym (append_assoc a (v ∷ (m ++ (w ∷ ds))) (x ∷ y ∷ [])) in
      let between : length m + 1 ≤ full_data = omega (arith, length-append a (c ∷ (m ++ (d ∷ r))), length-append m (d ∷ r)) in
      ap (right n) (whole d c)
      ∙ other_check n n (a ++ (c ∷ (m ++ (d ∷ ds)))) (a ++ (d ∷ (m ++ (c ∷ ds)))) x y (ap (right n) (sym (whole c d)) ∙ good)
      (λ same. ne (sym (value_once d c hd hc
      (told_apart (beside ds) (length m + 1) _ _ (omega arith) between (value_small d hd) (value_small c hc)
      (sym (at_places ds c d refl) ∙ same ∙ at_places ds d c (add_comm (value zbase32 d) (value zbase32 c)))))))
