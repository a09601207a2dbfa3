-- The sum over a line's characters, as a loop adds it up, and the check of a line. Assumes nothing.
use Prim.Native.Nat.{ℕ, suc, ◌+◌, ◌-◌, ◌*◌, ◌/◌, ◌%◌, ◌≤◌, ◌<◌}
use mathlib.Core.Path.{◌≡◌, refl, sym, ap, ◌∙◌}
use mathlib.Core.List.{List, [], ◌∷◌}
use native.Mathlib.Nat.{add_assoc, mul-le-mul_right}
use native.Mathlib.Numerals.{add-one}
use native.Mathlib.Omega.{arith}
use borrow.Author.Tests.{eq-eqb, ne_eqb}
use lib.Dec.{eqb}
use lib.ListN.{length, get_or, take, drop, drop_of_length-le}
use lib.Seq.{drop-cons}
use Rattle.text.specs.Text.{zbase32, zooko32, value, letter}
use Rattle.text.proofs.Singles.{place_most}
use Rattle.typed.specs.Typed.{weighed, check_of, check_letters, data_of, right}

-- ---- the sum

alphabet_full : length zbase32.alphabet ≡ 32
unfolding zbase32 zooko32
alphabet_full = refl

pub value_most : (c v : ℕ) → v ≡ value zbase32 c → v ≤ 32
value_most c v e = let l : length zbase32.alphabet ≡ 32 = alphabet_full in omega (arith, place_most c zbase32.alphabet)

-- a place times a value
pub term_most : (p v : ℕ) → p ≤ 40 → v ≤ 32 → p * v ≤ 1280
term_most p v h l = omega (arith, mul-le-mul_right v h)

module _ (cs : List ℕ) where
  pub weigh_none : weighed 1 cs ≡ 0 + weighed (0 + 1) (drop 0 cs)
  weigh_none = omega arith

  module _ (i sum : ℕ) where
    pub weigh_next : (v : ℕ) → i < length cs → weighed 1 cs ≡ sum + weighed (i + 1) (drop i cs) → v ≡ value zbase32 (get_or cs i 0)
        → weighed 1 cs ≡ sum + (i + 1) * v + weighed (i + 1 + 1) (drop (i + 1) cs)
    unfolding weighed
    weigh_next v h e q =
        let x : ℕ = value zbase32 (get_or cs i 0) in
        let t : weighed (i + 1) (drop i cs) ≡ (i + 1) * v + weighed (i + 1 + 1) (drop (i + 1) cs) =
        ap (weighed (i + 1)) (drop-cons cs i 0 h)
        ∙ ap (λ (k : ℕ). (i + 1) * x + weighed k (drop (suc i) cs)) (sym (add-one (i + 1)))
        ∙ ap (λ (k : ℕ). (i + 1) * x + weighed (i + 1 + 1) (drop k cs)) (sym (add-one i))
        ∙ ap (λ (k : ℕ). (i + 1) * k + weighed (i + 1 + 1) (drop (i + 1) cs)) (sym q) in
        e ∙ ap (λ (k : ℕ). sum + k) t ∙ sym (add_assoc sum ((i + 1) * v) (weighed (i + 1 + 1) (drop (i + 1) cs)))

    pub weigh_end : length cs ≤ i → weighed 1 cs ≡ sum + weighed (i + 1) (drop i cs) → sum ≡ weighed 1 cs
    unfolding weighed
    weigh_end h e = sym (e ∙ rw (drop_of_length-le cs {i = i} h) (omega arith))

-- ---- the check

module _ (n : ℕ) (cs : List ℕ) (sum : ℕ) (w : sum ≡ weighed 1 cs) where
  pub check_is : ((sum + 41 * n) % 1021 ≡ check_of n cs) × ((sum + 41 * n) % 1021 < 1021)
  unfolding check_of
  check_is = (ap (λ (k : ℕ). (k + 41 * n) % 1021) w, omega arith)

pub check_written : (n sum q r : ℕ) (cs : List ℕ) → sum ≡ check_of n cs → q ≡ letter zbase32 (sum / 32) → r ≡ letter zbase32 (sum % 32) → q ∷ r ∷ [] ≡ check_letters n cs
unfolding check_letters
check_written n sum q r cs e f g = rw (f, g, e)

-- x are the check's characters of the data of line l, which stand in front of its last two
module _ (n : ℕ) (l x : List ℕ) (two : 2 ≤ length l) (e : x ≡ check_letters n (take (length l - 2) l)) where
  of_data : x ≡ check_letters n (data_of l)
  unfolding data_of
  of_data = e

  pub right_not : (get_or l (length l - 2) 0 ≡ get_or x 0 0 → ⊥) → eqb (get_or l (length l - 2) 0) (get_or x 0 0) ≡ right n l
  unfolding right check_letters
  right_not h =
      let k : letter zbase32 (check_of n (data_of l) / 32) ≡ get_or x 0 0 = ap (λ (z : List ℕ). get_or z 0 0) (sym of_data) in
      rw (k, ne_eqb (get_or l (length l - 2) 0) (get_or x 0 0) h)

  pub right_last : get_or l (length l - 2) 0 ≡ get_or x 0 0 → eqb (get_or l (length l - 2 + 1) 0) (get_or x 1 0) ≡ right n l
  unfolding right check_letters
  right_last h =
      let k : letter zbase32 (check_of n (data_of l) / 32) ≡ get_or x 0 0 = ap (λ (z : List ℕ). get_or z 0 0) (sym of_data) in
      let m : letter zbase32 (check_of n (data_of l) % 32) ≡ get_or x 1 0 = ap (λ (z : List ℕ). get_or z 1 0) (sym of_data) in
      let j : length l - 2 + 1 ≡ length l - 1 = omega arith in
      rw (k, eq-eqb (get_or l (length l - 2) 0) (get_or x 0 0) h, m, j)
