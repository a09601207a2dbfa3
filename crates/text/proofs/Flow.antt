-- Bits go in as digits of a bits and come out as digits of b bits, first bits first: the one law of
-- packing, for both forms and both directions. Assumes nothing.
use Prim.Native.Nat.{ℕ, ◌+◌, ◌-◌, ◌*◌, ◌/◌, ◌%◌, ◌^◌, ◌≤◌, ◌<◌}
use mathlib.Core.Path.{◌≡◌, refl, sym, ap, ◌∙◌}
use mathlib.Core.List.{List, [], ◌∷◌, ◌++◌}
use native.Mathlib.Nat.{add_assoc, add-zero, mul-zero, mul-suc, add-mul, mul_assoc, mod-lt, suc-mul, mul-le-mul_right}
use native.Mathlib.Numerals.{add-one}
use native.Mathlib.Omega.{arith}
use lib.Dec.{lit<}
use lib.Pow.{pow-add, pow_pos, split, high, low, shr_lt}
use lib.ListN.{length, length-append}
use Rattle.wire.specs.Number.{digits, number_from, number, Digits}
use Rattle.wire.proofs.Digits.{number_snoc, digits_number, small_snoc}

-- the digits xs went in and the digits ys came out; `held` are the k bits between
pub record Flow (a b : ℕ) (xs ys : List ℕ) (held k : ℕ) : Type 0 where
  pub sum : number (2 ^ a) xs ≡ number (2 ^ b) ys * 2 ^ k + held
  pub fits : held < 2 ^ k
  pub count : a * length xs ≡ b * length ys + k
  pub small : Digits (2 ^ b) ys

pub flow_none : (a b : ℕ) → Flow a b [] [] 0 0
unfolding number_from
flow_none a b = record { sum = refl; fits = lit< tt; count = mul-zero a ∙ sym (add-zero (b * 0) ∙ mul-zero b); small = λ i. pow_pos b }

pub flow_in : {a b : ℕ} {xs ys : List ℕ} {held k : ℕ} → Flow a b xs ys held k → (x : ℕ) → x < 2 ^ a
    → Flow a b (xs ++ (x ∷ [])) ys (held * 2 ^ a + x) (k + a)
flow_in {a} {b} {xs} {ys} {held} {k} h x l =
    let n : ℕ = number (2 ^ b) ys in
    record {
      sum =
          number_snoc (2 ^ a) 0 xs x
          ∙ rw (h.sum, add-mul (n * 2 ^ k) held (2 ^ a), mul_assoc n (2 ^ k) (2 ^ a), ← pow-add 2 k a)
          (add_assoc (n * 2 ^ (k + a)) (held * 2 ^ a) x);
      fits = omega (arith, pow-add 2 k a, mul-le-mul_right (2 ^ a) h.fits, suc-mul held (2 ^ a));
      count = rw (length-append xs (x ∷ []), add-one, mul-suc a (length xs), h.count) (add_assoc (b * length ys) k a);
      small = h.small;
    }

pub flow_out : {a b : ℕ} {xs ys : List ℕ} {held k : ℕ} → Flow a b xs ys held k → b ≤ k
    → Flow a b xs (ys ++ (held / 2 ^ (k - b) ∷ [])) (held % 2 ^ (k - b)) (k - b)
flow_out {a} {b} {xs} {ys} {held} {k} h l =
    let m : ℕ = k - b in
    let n : ℕ = number (2 ^ b) ys in
    let q : ℕ = held / 2 ^ m in
    let e : k ≡ b + m = omega arith in
    record {
      sum =
          h.sum
          ∙ rw (number_snoc (2 ^ b) 0 ys q, add-mul (n * 2 ^ b) q (2 ^ m), mul_assoc n (2 ^ b) (2 ^ m), ← pow-add 2 b m, ← e)
          (ap (λ (z : ℕ). n * 2 ^ k + z) (sym (split held m)) ∙ sym (add_assoc (n * 2 ^ k) (q * 2 ^ m) (held % 2 ^ m)));
      fits = mod-lt held (pow_pos m);
      count =
          h.count
          ∙ rw (length-append ys (q ∷ []), add-one, mul-suc b (length ys), add_assoc (b * length ys) b m) (ap (λ (z : ℕ). b * length ys + z) e);
      small = small_snoc (2 ^ b) ys q h.small (shr_lt b m (rw e at h.fits));
    }

-- what came out, and what is left
pub flow_digits : {a b : ℕ} {xs ys : List ℕ} {held k : ℕ} → Flow a b xs ys held k → ys ≡ digits (2 ^ b) (length ys) (number (2 ^ a) xs / 2 ^ k)
flow_digits {a} {b} {xs} {ys} {held} {k} h =
    sym (digits_number (2 ^ b) ys (length ys) refl h.small)
    ∙ ap (digits (2 ^ b) (length ys)) (sym (ap (λ (z : ℕ). z / 2 ^ k) h.sum ∙ high (number (2 ^ b) ys) k h.fits))

pub flow_held : {a b : ℕ} {xs ys : List ℕ} {held k : ℕ} → Flow a b xs ys held k → held ≡ number (2 ^ a) xs % 2 ^ k
flow_held {a} {b} {xs} {ys} {held} {k} h = sym (ap (λ (z : ℕ). z % 2 ^ k) h.sum ∙ low (number (2 ^ b) ys) k h.fits)
