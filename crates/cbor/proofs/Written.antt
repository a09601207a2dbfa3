-- What is written reads back, whatever stands before and after it. Assumes nothing.
use Prim.Native.Nat.{ℕ, ◌+◌, ◌*◌, ◌/◌, ◌%◌, ◌^◌, ◌≤◌, ◌<◌}
use mathlib.Core.Path.{◌≡◌, refl, sym, ap, ◌∙◌, subst}
use mathlib.Core.Logic.{⊎_elim}
use mathlib.Core.Bool.{true}
use mathlib.Core.List.{List, [], ◌∷◌, ◌++◌}
use native.Mathlib.Omega.{arith}
use borrow.Author.Tests.{lt-ltb, le-ltb, le-leb, eq-eqb}
use lib.Dec.{ltb, lit<}
use lib.ListN.{length, take, drop}
use Rattle.wire.specs.Answer.{choose, got}
use Rattle.wire.specs.Number.{big_endian, number}
use Rattle.wire.proofs.Cases.{lt_or_le}
use Rattle.wire.proofs.Digits.{length_digits, number_digits}
use Rattle.wire.proofs.Standing.{Stands, stands_first, stands_second, stands_bytes, stands_byte}
use Rattle.wire.specs.declared.Span.{Span}
use Rattle.wire.specs.Span.{part_at}
use Rattle.lend.proofs.Sames.{same_refl}
use Rattle.cbor.specs.Form.{info_of, width_of, head_of, string_of, first_of, bytes_of, float_as, float_of, string_field_of, number_field_of}
use Rattle.cbor.specs.Item.{byte_at, one_at, big_endian_at, argument_at, kind_of, head_at, number_at, contents_at, string_at, name_at, key_at, is_float, body_at, float_at, string_field_at, number_field_at, any_field_at}
use Rattle.cbor.specs.Float.{finite, shortest, magnitude, widened_bits, narrowed_bits}
use Rattle.cbor.specs.declared.Width.{Width}
use Rattle.cbor.specs.declared.Width.TheVariants.{Double}
use Rattle.cbor.proofs.Floats.{Form, finite_below, below_finite, magnitude_narrowed, widened_narrowed_bits, narrowed_bits_below}
use Rattle.cbor.proofs.Shortest.{shortest_form, bytes_hold_lem, first_float}
use Rattle.cbor.proofs.Sizes.{info_most, info_low, info_high, width_none, width_holds, head_low}

module _ {s : List ℕ} {at next : ℕ} where
  pub byte_back : (x : ℕ) → Stands s at (x ∷ []) next → byte_at s at ≡ got x next
  byte_back x h = let b = stands_byte x h in rw (lt-ltb at (length s) b.0, b.1, b.2)

  pub one_back : (x : ℕ) → Stands s at (x ∷ []) next → one_at s at x ≡ got tt next
  unfolding one_at
  one_back x h = rw (byte_back x h, eq-eqb x x refl)

  pub big_endian_back : (k n : ℕ) → n < 256 ^ k → Stands s at (big_endian k n) next → big_endian_at s at k ≡ got n next
  unfolding big_endian_at
  big_endian_back k n l h =
      let c = length_digits 256 k n in
      let e : next ≡ at + k = omega (arith, h.ends) in
      let v : number 256 (take k (drop at s)) ≡ n =
      ap (λ (j : ℕ). number 256 (take j (drop at s))) (sym c) ∙ ap (number 256) (stands_bytes h) ∙ number_digits 256 k n (lit< tt) l in
      rw (le-leb (at + k) (length s) (omega (arith, h.within)), v, e)

  -- the number of a head, after its first byte
  argument_back : (n : ℕ) → n < 2 ^ 64 → Stands s at (big_endian (width_of (info_of n)) n) next → argument_at s at (info_of n) ≡ got n next
  unfolding argument_at
  argument_back n l h = ⊎_elim low high (lt_or_le n 24)
    where
      low : n < 24 → choose (ltb (info_of n) 24) (got (info_of n) at) (big_endian_at s at (width_of (info_of n))) ≡ got n next
      low k =
          let i : info_of n ≡ n = info_low n k in
          let w : width_of (info_of n) ≡ 0 = width_none (info_of n) (omega arith) in
          let e : at ≡ next = omega (arith, h.ends, length_digits 256 (width_of (info_of n)) n) in
          rw (lt-ltb (info_of n) 24 (omega arith), i, e)

      high : 24 ≤ n → choose (ltb (info_of n) 24) (got (info_of n) at) (big_endian_at s at (width_of (info_of n))) ≡ got n next
      high k = rw (le-ltb (info_of n) 24 (info_high n k)) (big_endian_back (width_of (info_of n)) n (width_holds n k l) h)

  -- a float, after its first byte
  body_back : (w : Width) (value : ℕ) → shortest (magnitude Double value) ≡ w → value < 2 ^ 64 → finite Double value ≡ true
      → Stands s at (big_endian (bytes_of w) (narrowed_bits w value)) next → body_at s at w ≡ got value next
  unfolding body_at
  body_back w value e l f h =
      let form : Form w (magnitude Double value) = subst (λ (v : Width). Form v (magnitude Double value)) e (shortest_form (magnitude Double value) (finite_below Double value f)) in
      let b : narrowed_bits w value < 256 ^ bytes_of w = rw (bytes_hold_lem w) (narrowed_bits_below w value form) in
      let m = magnitude_narrowed w value form in
      let v : widened_bits w (narrowed_bits w value) ≡ value = widened_narrowed_bits w value form l in
      rw (big_endian_back (bytes_of w) (narrowed_bits w value) b h)
      (rw (below_finite w (narrowed_bits w value) (rw m form.finite), v, e, eq-eqb (first_of w) (first_of w) refl))

  pub contents_back : (bs : List ℕ) → Stands s at bs next → contents_at s at (length bs) ≡ got (record { start = at; len = length bs }) next
  unfolding contents_at
  contents_back bs h = rw (le-leb (at + length bs) (length s) (omega (arith, h.ends, h.within)), h.ends)

  pub name_back : (name : List ℕ) → Stands s at name next → name_at s at name ≡ got tt next
  unfolding name_at
  name_back name h =
      rw (le-leb (at + length name) (length s) (omega (arith, h.ends, h.within)), stands_bytes h, same_refl name, h.ends)

module _ {s : List ℕ} {at next : ℕ} where
  pub head_back : (major n : ℕ) → n < 2 ^ 64 → Stands s at (head_of major n) next → head_at s at (kind_of major) ≡ got (record { major = major; n = n }) next
  unfolding head_at head_of
  head_back major n l h =
      let x : ℕ = major * 32 + info_of n in
      let m = info_most n in
      let q : (major * 32 + info_of n) / 32 ≡ major = omega arith in
      let r : (major * 32 + info_of n) % 32 ≡ info_of n = omega arith in
      let a = argument_back n l (stands_second ((major * 32 + info_of n) ∷ []) (big_endian (width_of (info_of n)) n) h) in
      rw (byte_back (major * 32 + info_of n) (stands_first ((major * 32 + info_of n) ∷ []) (big_endian (width_of (info_of n)) n) h))
      (rw (q, r, eq-eqb (kind_of major) (kind_of major) refl, le-leb (info_of n) 27 m, a, eq-eqb (info_of n) (info_of n) refl))

  pub float_begins : (value : ℕ) → Stands s at (float_of value) next → (x : ℕ) × (byte_at s at ≡ got x (at + 1)) × (is_float x ≡ true)
  unfolding float_of float_as
  float_begins value h =
      let w : Width = shortest (magnitude Double value) in
      (first_of w, byte_back (first_of w) (stands_first (first_of w ∷ []) (big_endian (bytes_of w) (narrowed_bits w value)) h), (first_float w).0)

  -- a finite float; the first byte of each width names it
  pub float_back : (value : ℕ) → value < 2 ^ 64 → finite Double value ≡ true → Stands s at (float_of value) next → float_at s at ≡ got value next
  unfolding float_at float_of float_as
  float_back value l f h =
      let w : Width = shortest (magnitude Double value) in
      let n : ℕ = narrowed_bits (shortest (magnitude Double value)) value in
      let c = first_float (shortest (magnitude Double value)) in
      rw (byte_back (first_of w) (stands_first (first_of w ∷ []) (big_endian (bytes_of w) n) h))
      (rw (c.0, c.1) (body_back w value refl l f (stands_second (first_of w ∷ []) (big_endian (bytes_of w) n) h)))

  pub key_back : (name : List ℕ) → length name < 24 → Stands s at (string_of 3 name) next → key_at s at name ≡ got tt next
  unfolding key_at string_of
  key_back name l h =
      let g : Stands s at (((96 + length name) ∷ []) ++ name) next = rw (head_low 3 (length name) l) at h in
      rw (lt-ltb (length name) 24 l, one_back (96 + length name) (stands_first ((96 + length name) ∷ []) name g))
      (name_back name (stands_second ((96 + length name) ∷ []) name g))

-- a string, and the place of its contents
pub record Found (s bs : List ℕ) (v : Span) : Type 0 where
  pub long : v.len ≡ length bs
  pub part : part_at s v ≡ bs

-- the kinds are their own major types, but that a negative integer has another
pub kind_integer : kind_of 0 ≡ 0
unfolding kind_of
kind_integer = refl

pub kind_bytes : kind_of 2 ≡ 2
unfolding kind_of
kind_bytes = refl

pub kind_text : kind_of 3 ≡ 3
unfolding kind_of
kind_text = refl

pub kind_array : kind_of 4 ≡ 4
unfolding kind_of
kind_array = refl

module _ (kind least most fault : ℕ) (k : kind_of kind ≡ kind) where
  pub number_back : {s : List ℕ} {at next : ℕ} (n : ℕ) → n < 2 ^ 64 → least ≤ n → n ≤ most → Stands s at (head_of kind n) next
      → number_at s at kind least most fault ≡ got n next
  unfolding number_at
  number_back {s} {at} {next} n l a b h =
      let e : head_at s at kind ≡ got (record { major = kind; n = n }) next = ap (head_at s at) (sym k) ∙ head_back kind n l h in
      rw e (rw (eq-eqb kind kind refl, le-leb least n a, le-leb n most b))

  module _ (bs : List ℕ) (l : length bs < 2 ^ 64) (a : least ≤ length bs) (b : length bs ≤ most) where
    pub string_back : {s : List ℕ} {at next : ℕ} → Stands s at (string_of kind bs) next → (v : Span) × (string_at s at kind least most fault ≡ got v next) × Found s bs v
    unfolding string_at string_of
    string_back {at = at} h =
        let h₁ = stands_first (head_of kind (length bs)) bs h in
        let h₂ = stands_second (head_of kind (length bs)) bs h in (
          record { start = at + length (head_of kind (length bs)); len = length bs },
          rw (number_back (length bs) l a b h₁) (contents_back bs h₂),
          record { long = refl; part = stands_bytes h₂ },
        )

    pub string_field_back : {s : List ℕ} {at next : ℕ} (name : List ℕ) → length name < 24 → Stands s at (string_field_of name kind bs) next
        → (v : Span) × (string_field_at s at name kind least most fault ≡ got v next) × Found s bs v
    unfolding string_field_at string_field_of
    string_field_back name c h =
        let r = string_back (stands_second (string_of 3 name) (string_of kind bs) h) in
        (r.0, rw (key_back name c (stands_first (string_of 3 name) (string_of kind bs) h)) r.1, r.2)

pub number_field_back : {s : List ℕ} {at next : ℕ} (name : List ℕ) (least most n : ℕ) → length name < 24 → n < 2 ^ 64 → least ≤ n → n ≤ most
    → Stands s at (number_field_of name n) next → number_field_at s at name least most ≡ got n next
unfolding number_field_at number_field_of
number_field_back name least most n c l a b h =
    rw (key_back name c (stands_first (string_of 3 name) (head_of 0 n) h))
    (number_back 0 least most 19 kind_integer n l a b (stands_second (string_of 3 name) (head_of 0 n) h))

pub any_field_back : {s : List ℕ} {at a x next : ℕ} (name : List ℕ) → length name < 24 → Stands s at (string_of 3 name) a → byte_at s a ≡ got x next
    → any_field_at s at name ≡ got x a
unfolding any_field_at
any_field_back name l h b = rw (key_back name l h, b)
