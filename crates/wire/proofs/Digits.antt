-- Laws of digits: how many there are, that they say the number, and that there is one way to say
-- it. Assumes nothing.
use mathlib.Core.Path.{◌≡◌, refl, sym, ap, ◌∙◌}
use mathlib.Core.List.{List, [], ◌∷◌, ◌++◌}
use mathlib.Core.Logic.{◌⊎◌, inl, inr, ⊎_elim}
use Prim.Native.Nat.{ℕ, zero, suc, ◌+◌, ◌-◌, ◌*◌, ◌/◌, ◌%◌, ◌^◌, ◌≤◌, ◌<◌}
use native.Mathlib.Nat.{eq-or-lt_of_le, le_of_suc-le-suc, div-one, mul-zero, mul-suc, add_comm, zero-add, pow-zero, pow-suc, mod-lt, mod-eq_of_lt, div-eq_of_lt}
use native.Mathlib.Nat.{add-mul-div_right, add-mul-mod_self_right, div-lt_iff_lt-mul, div-add-mod', suc-mul, mul-le-mul_right}
use native.Mathlib.Numerals.{add-one}
use native.Mathlib.Omega.{arith}
use lib.Pow.{shr-shr}
use lib.ListN.{length, take, drop, get_or, length-append, get_or-append, get_or-eq_default}
use lib.Seq.{get_or_at, take_all, take-suc, length-take-le, get_or-take, get_or-drop}
use lib.Dec.{lit<}
use Rattle.wire.specs.Number.{digits, number_from, number, little_endian, Digits, Bytes}
use Rattle.wire.proofs.Cases.{lt_or_le}

pub length_digits : (base k n : ℕ) → length (digits base k n) ≡ k
unfolding digits
length_digits base zero n = refl
length_digits base (suc k) n = length-append (digits base k (n / base)) (n % base ∷ []) ∙ rw (length_digits base k (n / base), add-one)

pub length_little : (k n : ℕ) → length (little_endian k n) ≡ k
unfolding little_endian
length_little zero n = refl
length_little (suc k) n = ap suc (length_little k (n / 256))

-- one digit more at the end
pub number_snoc : (base n : ℕ) (ds : List ℕ) (d : ℕ) → number_from base n (ds ++ (d ∷ [])) ≡ number_from base n ds * base + d
unfolding number_from
number_snoc base n [] d = refl
number_snoc base n (x ∷ ds) d = number_snoc base (n * base + x) ds d

-- digit j of the k lowest, in a base of w bits
pub digits_at : (w k n j : ℕ) → j < k → get_or (digits (2 ^ w) k n) j 0 ≡ n / 2 ^ (w * (k - 1 - j)) % 2 ^ w
unfolding digits
digits_at w zero n j h = absurd (omega arith)
digits_at w (suc k) n j h = pick (digits_at w k (n / 2 ^ w) j) (eq-or-lt_of_le (le_of_suc-le-suc h))
  where
    pick : (j < k → get_or (digits (2 ^ w) k (n / 2 ^ w)) j 0 ≡ n / 2 ^ w / 2 ^ (w * (k - 1 - j)) % 2 ^ w)
        → (j ≡ k) ⊎ (j < k) → get_or (digits (2 ^ w) k (n / 2 ^ w) ++ (n % 2 ^ w ∷ [])) j 0 ≡ n / 2 ^ (w * (suc k - 1 - j)) % 2 ^ w
    pick ih (inl e) =
        let z : suc k - 1 - j ≡ 0 = omega arith in
        get_or_at (digits (2 ^ w) k (n / 2 ^ w)) (n % 2 ^ w) [] 0 j (length_digits (2 ^ w) k (n / 2 ^ w) ∙ sym e) ∙ rw (z, mul-zero w, div-one)
    pick ih (inr l) =
        let y : suc k - 1 - j ≡ suc (k - 1 - j) = omega arith in
        let z : w + w * (k - 1 - j) ≡ w * (suc k - 1 - j) = rw (y, mul-suc w (k - 1 - j)) (add_comm w (w * (k - 1 - j))) in
        get_or-append (digits (2 ^ w) k (n / 2 ^ w)) (n % 2 ^ w ∷ []) 0 j (rw (length_digits (2 ^ w) k (n / 2 ^ w)) l)
        ∙ ih l
        ∙ ap (λ (x : ℕ). x % 2 ^ w) (shr-shr n w (w * (k - 1 - j)) ∙ ap (λ (e : ℕ). n / 2 ^ e) z)

-- byte j of a number's k lowest, the lowest first
pub little_at : (k n j : ℕ) → j < k → get_or (little_endian k n) j 0 ≡ n / 2 ^ (j * 8) % 256
unfolding little_endian
little_at zero n j h = absurd (omega arith)
little_at (suc k) n zero h = ap (λ (x : ℕ). x % 256) (sym (div-one n))
little_at (suc k) n (suc j) h =
    little_at k (n / 256) j (omega arith)
    ∙ ap (λ (x : ℕ). x % 256) (shr-shr n 8 (j * 8) ∙ ap (λ (e : ℕ). n / 2 ^ e) (omega arith))

-- ---- the number and its digits, each from the other

-- the last step of a number, undone
module _ (base q d : ℕ) (small : d < base) where
  snoc_div : (q * base + d) / base ≡ q
  snoc_div =
      let z : zero < base = omega arith in
      ap (λ (n : ℕ). n / base) (add_comm (q * base) d) ∙ add-mul-div_right d q z ∙ rw (div-eq_of_lt small) (zero-add q)

  snoc_mod : (q * base + d) % base ≡ d
  snoc_mod = ap (λ (n : ℕ). n % base) (add_comm (q * base) d) ∙ add-mul-mod_self_right d q base ∙ mod-eq_of_lt small

-- one digit more
pub small_snoc : (base : ℕ) (ds : List ℕ) (d : ℕ) → Digits base ds → d < base → Digits base (ds ++ (d ∷ []))
small_snoc base [] d all h zero = h
small_snoc base [] d all h (suc i) = all i
small_snoc base (x ∷ ds) d all h zero = all 0
small_snoc base (x ∷ ds) d all h (suc i) = small_snoc base ds d (λ j. all (suc j)) h i

pub digits_small : (base k n : ℕ) → zero < base → Digits base (digits base k n)
unfolding digits
digits_small base zero n z = λ i. z
digits_small base (suc k) n z = small_snoc base (digits base k (n / base)) (n % base) (digits_small base k (n / base) z) (mod-lt n z)

-- k digits hold what is below base ^ k
pub number_digits : (base k n : ℕ) → zero < base → n < base ^ k → number base (digits base k n) ≡ n
unfolding digits number_from
number_digits base zero n z h = omega (arith, pow-zero base)
number_digits base (suc k) n z h =
    let q : n / base < base ^ k = (div-lt_iff_lt-mul z).1 (rw (pow-suc base k) at h) in
    number_snoc base 0 (digits base k (n / base)) (n % base)
    ∙ ap (λ (m : ℕ). m * base + n % base) (number_digits base k (n / base) z q)
    ∙ div-add-mod' n base

-- the front of a list of digits, and its last
module _ (base : ℕ) (ds : List ℕ) (k : ℕ) (count : length ds ≡ suc k) (all : Digits base ds) where
  split : ds ≡ take k ds ++ (get_or ds k 0 ∷ [])
  split = sym (take_all (suc k) ds (omega arith)) ∙ take-suc ds k 0 (omega arith)

  front_small : Digits base (take k ds)
  front_small i = ⊎_elim (λ h. rw (get_or-take k ds i 0 h) (all i)) (λ h. omega (arith, past h, all 0)) (lt_or_le i k)
    where
      past : k ≤ i → get_or (take k ds) i 0 ≡ 0
      past h = get_or-eq_default (take k ds) 0 {n = i} (rw (length-take-le k ds (omega arith)) h)

-- digits of one length say one number each
pub digits_number : (base : ℕ) (ds : List ℕ) (k : ℕ) → length ds ≡ k → Digits base ds → digits base k (number base ds) ≡ ds
unfolding digits
digits_number base [] zero e all = refl
digits_number base (d ∷ ds) zero e all = cc
digits_number base ds (suc k) e all =
    let f : List ℕ = take k ds in
    let d : ℕ = get_or ds k 0 in
    let n : number base ds ≡ number base f * base + d = ap (number base) (split base ds k e all) ∙ number_snoc base 0 f d in
    let ih : digits base k (number base f) ≡ f = digits_number base f k (length-take-le k ds (omega arith)) (front_small base ds k e all) in
    ap (λ (m : ℕ). digits base k (m / base) ++ (m % base ∷ [])) n
    ∙ rw (snoc_div base (number base f) d (all k), snoc_mod base (number base f) d (all k), ih) (sym (split base ds k e all))

pub number_lt : (base : ℕ) (ds : List ℕ) (k : ℕ) → length ds ≡ k → Digits base ds → number base ds < base ^ k
unfolding number_from
number_lt base [] zero e all = rw (pow-zero base) (lit< tt)
number_lt base (d ∷ ds) zero e all = absurd (omega arith)
number_lt base ds (suc k) e all =
    let f : List ℕ = take k ds in
    let d : ℕ = get_or ds k 0 in
    let n : number base ds ≡ number base f * base + d = ap (number base) (split base ds k e all) ∙ number_snoc base 0 f d in
    let ih : number base f < base ^ k = number_lt base f k (length-take-le k ds (omega arith)) (front_small base ds k e all) in
    omega (arith, n, pow-suc base k, all k, mul-le-mul_right base ih, suc-mul (number base f) base)

-- ---- digits of a part

pub small_drop : (base k : ℕ) (ds : List ℕ) → Digits base ds → Digits base (drop k ds)
small_drop base k ds all i = rw (get_or-drop k ds i 0) (all (k + i))

pub small_take : (base k : ℕ) (ds : List ℕ) → Digits base ds → Digits base (take k ds)
small_take base zero ds all i = omega (arith, all 0)
small_take base (suc k) [] all i = all i
small_take base (suc k) (d ∷ ds) all zero = all 0
small_take base (suc k) (d ∷ ds) all (suc i) = small_take base k ds (λ j. all (suc j)) i

-- ---- bytes put together

pub bytes_none : Bytes []
bytes_none i = omega arith

pub bytes_cons : (b : ℕ) (bs : List ℕ) → b < 256 → Bytes bs → Bytes (b ∷ bs)
bytes_cons b bs h t zero = h
bytes_cons b bs h t (suc i) = t i

pub bytes_append : (xs ys : List ℕ) → Bytes xs → Bytes ys → Bytes (xs ++ ys)
bytes_append [] ys x y i = y i
bytes_append (b ∷ xs) ys x y zero = x 0
bytes_append (b ∷ xs) ys x y (suc i) = bytes_append xs ys (λ (j : ℕ). x (suc j)) y i
