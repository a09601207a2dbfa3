-- One byte more of a number that is being read: what `read` and the loop of `read_later` go by.
-- Assumes nothing.
use Prim.Native.Nat.{ℕ, suc, ◌+◌, ◌-◌, ◌*◌, ◌%◌, ◌^◌, ◌<◌, ◌≤◌}
use mathlib.Core.Path.{◌≡◌, refl, sym, ap, ◌∙◌}
use mathlib.Core.List.{List}
use native.Mathlib.Nat.{pow-succ', mul_assoc, mul-add, mul-le-mul_left, le-pred_of_lt, one-le-pow}
use native.Mathlib.Numerals.{add-one}
use native.Mathlib.Omega.{arith}
use borrow.Author.Tests.{lt-ltb, le-ltb, eq-eqb, ne_eqb}
use lib.Dec.{lit<}
use lib.ListN.{length, drop, get_or, drop_of_length-le}
use lib.Seq.{drop-cons}
use Rattle.wire.specs.Answer.{done, refused_at, refused, Got, got}
use Rattle.varint.specs.Varint.{onto, ending, tenth, later_from, varint_from, varint_at}

-- ---- the first byte

pub first_none : (s : List ℕ) (at : ℕ) → length s ≤ at → refused 3 ≡ varint_at s at
unfolding varint_at varint_from
first_none s at h = rw (drop_of_length-le s {i = at} h)

module _ (s : List ℕ) (at b : ℕ) (l : at < length s) (e : b ≡ get_or s at 0) where
  pub first_only : b < 128 → got b (at + 1) ≡ varint_at s at
  unfolding varint_at varint_from
  first_only h = rw (drop-cons s at 0 l, ← e, lt-ltb b 128 h)

  pub first_of_more : (g : Got ℕ) → 128 ≤ b → g ≡ onto (b % 128) 128 (later_from 8 (at + 1) (drop (at + 1) s)) → g ≡ varint_at s at
  unfolding varint_at varint_from
  first_of_more g h q = q ∙ rw (drop-cons s at 0 l, ← e, le-ltb b 128 h, add-one at)

-- ---- a later byte b, at position i, after which p may follow

module _ (p i b : ℕ) (s : List ℕ) (l : i < length s) (e : b ≡ get_or s i 0) where
  later_tenth : p ≡ 0 → later_from p i (drop i s) ≡ tenth b (i + 1)
  unfolding later_from
  later_tenth z = rw (drop-cons s i 0 l, ← e, z)

  later_last : (p ≡ 0 → ⊥) → b < 128 → later_from p i (drop i s) ≡ ending b (i + 1)
  unfolding later_from
  later_last n h =
      let k : p ≡ suc (p - 1) = omega arith in
      ap (λ (q : ℕ). later_from q i (drop i s)) k ∙ rw (drop-cons s i 0 l, ← e, lt-ltb b 128 h)

  later_more : (p ≡ 0 → ⊥) → 128 ≤ b → later_from p i (drop i s) ≡ onto (b % 128) 128 (later_from (p - 1) (i + 1) (drop (i + 1) s))
  unfolding later_from
  later_more n h =
      let k : p ≡ suc (p - 1) = omega arith in
      ap (λ (q : ℕ). later_from q i (drop i s)) k ∙ rw (drop-cons s i 0 l, ← e, le-ltb b 128 h, add-one i)

-- ---- the last byte b, above what is read so far

module _ (n w b next : ℕ) where
  pub ending_zero : b ≡ 0 → refused 7 ≡ onto n w (ending b next)
  unfolding ending
  ending_zero h = rw (eq-eqb b 0 h)

  pub ending_byte : 0 < b → got (n + w * b) next ≡ onto n w (ending b next)
  unfolding ending
  ending_byte h = rw (ne_eqb b 0 (omega arith))

  pub tenth_above : 1 < b → refused 7 ≡ onto n w (tenth b next)
  unfolding tenth
  tenth_above h = rw (lt-ltb 1 b h)

  pub tenth_ending : (g : Got ℕ) → b ≤ 1 → g ≡ onto n w (ending b next) → g ≡ onto n w (tenth b next)
  unfolding tenth
  tenth_ending g h e = rw (le-ltb 1 b h) e

-- a tenth byte adds no more than its weight
pub tenth_adds : (n w b : ℕ) → b ≤ 1 → n + w < 2 ^ 64 → n + w * b < 2 ^ 64
tenth_adds n w b l h = omega (arith, mul-le-mul_left w l)

-- ---- the loop: n is read so far, w weighs the byte at position i, after which left may follow

onto_onto : (n w x u : ℕ) (g : Got ℕ) → onto n w (onto x u g) ≡ onto (n + w * x) (w * u) g
onto_onto n w x u (done (v, next)) =
    let e : n + w * (x + u * v) ≡ n + w * x + w * u * v = omega (arith, mul-add w x (u * v), mul_assoc w u v) in
    ap (λ (k : ℕ). got k next) e
onto_onto n w x u (refused_at e place) = refl

-- the next byte weighs 128 times as much
weight_next : (w p : ℕ) → (p ≡ 0 → ⊥) → w * 128 ^ p ≡ 2 ^ 63 → w * 128 * 128 ^ (p - 1) ≡ 2 ^ 63
weight_next w p n h =
    let e : p ≡ suc (p - 1) = omega arith in
    mul_assoc w 128 (128 ^ (p - 1)) ∙ ap (λ (k : ℕ). w * k) (sym (pow-succ' 128 (p - 1)) ∙ ap (λ (k : ℕ). 128 ^ k) (sym e)) ∙ h

weight_most : (w p : ℕ) → w * 128 ^ p ≡ 2 ^ 63 → w ≤ 2 ^ 63
weight_most w p h = omega (arith, mul-le-mul_left w (one-le-pow p 128 (lit< tt)))

pub record State (whole : Got ℕ) (s : List ℕ) (n w left i : ℕ) : Type 0 where
  pub below : n < w
  pub weight : w * 128 ^ left ≡ 2 ^ 63
  pub rest : whole ≡ onto n w (later_from left i (drop i s))

pub turn_none : (s : List ℕ) (from low : ℕ) → low < 128 → State (onto low 128 (later_from 8 from (drop from s))) s low 128 8 from
turn_none s from low h = record { below = h; weight = refl; rest = refl }

module _ (whole : Got ℕ) (s : List ℕ) (n w left i : ℕ) (h : State whole s n w left i) where
  pub input_ends : length s ≤ i → refused 3 ≡ whole
  unfolding later_from
  input_ends l = sym (h.rest ∙ rw (drop_of_length-le s {i = i} l))

  pub tenth_fits : n + w < 2 ^ 64
  tenth_fits = omega (arith, h.below, weight_most w left h.weight)

  -- a seven of bits at weight w stays below the next weight, which fits too
  seven_below : (left ≡ 0 → ⊥) → (x : ℕ) → x < 128 → (n + w * x < w * 128) × (w * 128 ≤ 2 ^ 63)
  seven_below z x b =
      let k = weight_most (w * 128) (left - 1) (weight_next w left z h.weight) in
      let m = mul-le-mul_left w (le-pred_of_lt b) in
      omega (arith, h.below)

  pub seven_fits : (left ≡ 0 → ⊥) → (x : ℕ) → x < 128 → n + w * x < 2 ^ 64
  seven_fits z x b = omega (arith, seven_below z x b)

  pub low_fits : (left ≡ 0 → ⊥) → (b : ℕ) → n + w * (b % 128) < 2 ^ 64
  low_fits z b = seven_fits z (b % 128) (omega arith)

  pub low_product_fits : (left ≡ 0 → ⊥) → (b : ℕ) → w * (b % 128) < 2 ^ 64
  low_product_fits z b = omega (arith, low_fits z b)

  pub weight_fits : (left ≡ 0 → ⊥) → w * 128 < 2 ^ 64
  weight_fits z = omega (arith, seven_below z 0 (lit< tt))

  module _ (b : ℕ) (l : i < length s) (e : b ≡ get_or s i 0) where
    pub tenth_ends : (g : Got ℕ) → left ≡ 0 → g ≡ onto n w (tenth b (i + 1)) → g ≡ whole
    tenth_ends g z q = q ∙ sym (h.rest ∙ ap (onto n w) (later_tenth left i b s l e z))

    pub last_ends : (g : Got ℕ) → (left ≡ 0 → ⊥) → b < 128 → g ≡ onto n w (ending b (i + 1)) → g ≡ whole
    last_ends g z k q = q ∙ sym (h.rest ∙ ap (onto n w) (later_last left i b s l e z k))

    pub turn : (left ≡ 0 → ⊥) → 128 ≤ b → State whole s (n + w * (b % 128)) (w * 128) (left - 1) (i + 1)
    turn z k = record {
      below = (seven_below z (b % 128) (omega arith)).0;
      weight = weight_next w left z h.weight;
      rest =
          h.rest
          ∙ ap (onto n w) (later_more left i b s l e z k)
          ∙ onto_onto n w (b % 128) 128 (later_from (left - 1) (i + 1) (drop (i + 1) s));
    }
