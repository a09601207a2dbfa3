-- Which head is the shortest, and how long it is. Assumes nothing.
use Prim.Native.Nat.{ℕ, ◌+◌, ◌*◌, ◌^◌, ◌<◌, ◌≤◌}
use mathlib.Core.Path.{◌≡◌, refl, ap, ◌∙◌}
use mathlib.Core.Bool.{Bool, true, false}
use mathlib.Core.List.{List, [], ◌∷◌}
use native.Mathlib.Omega.{arith}
use borrow.Author.Tests.{lt-ltb, ltb-true, ltb-false}
use lib.Dec.{ltb, eqb}
use lib.ListN.{length, length-append}
use Rattle.wire.specs.Answer.{choose}
use Rattle.wire.specs.Number.{digits}
use Rattle.wire.proofs.Digits.{length_digits}
use Rattle.cbor.specs.Form.{info_of, width_of, head_of, head_size, bytes_of, float_as, float_of, string_of, string_field_of, number_field_of}
use Rattle.cbor.specs.Float.{exponent_bits, fraction_bits, shortest, magnitude, narrowed_bits}
use Rattle.cbor.specs.declared.Width.{Width}
use Rattle.cbor.specs.declared.Width.TheVariants.{Half, Single, Double}

-- what holds of both answers holds of the one that a test picks
pub either : {A : Type 0} (P : A → Type 0) (t : Bool) {a b : A} → (t ≡ true → P a) → (t ≡ false → P b) → P (choose t a b)
either P true f g = f refl
either P false f g = g refl

-- the five cases of a number's size
pub sizes : (P : ℕ → Type 0) (n : ℕ) → (n < 24 → P n) → (24 ≤ n → n < 256 → P 24) → (256 ≤ n → n < 65536 → P 25)
    → (65536 ≤ n → n < 4294967296 → P 26) → (4294967296 ≤ n → P 27) → P (info_of n)
unfolding info_of
sizes P n f0 f1 f2 f4 f8 =
    either P (ltb n 24) (λ t. f0 (ltb-true n 24 t)) (λ t.
    either P (ltb n 256) (λ u. f1 (ltb-false n 24 t) (ltb-true n 256 u)) (λ u.
    either P (ltb n 65536) (λ v. f2 (ltb-false n 256 u) (ltb-true n 65536 v)) (λ v.
    either P (ltb n 4294967296) (λ w. f4 (ltb-false n 65536 v) (ltb-true n 4294967296 w)) (λ w. f8 (ltb-false n 4294967296 w)))))

-- five bits hold it, and it is none of the reserved
pub info_most : (n : ℕ) → info_of n ≤ 27
info_most n = sizes (λ (i : ℕ). i ≤ 27) n (λ h. omega arith) (λ h k. omega arith) (λ h k. omega arith) (λ h k. omega arith) (λ h. omega arith)

pub info_low : (n : ℕ) → n < 24 → info_of n ≡ n
unfolding info_of
info_low n h = rw (lt-ltb n 24 h)

pub info_high : (n : ℕ) → 24 ≤ n → 24 ≤ info_of n
info_high n l = sizes (λ (i : ℕ). 24 ≤ i) n (λ h. l) (λ h k. omega arith) (λ h k. omega arith) (λ h k. omega arith) (λ h. omega arith)

pub width_none : (i : ℕ) → i < 24 → width_of i ≡ 0
unfolding width_of
width_none i h = rw (lt-ltb i 24 h)

-- the bytes that follow hold the number
pub width_holds : (n : ℕ) → 24 ≤ n → n < 2 ^ 64 → n < 256 ^ width_of (info_of n)
unfolding width_of
width_holds n l b =
    sizes (λ (i : ℕ). n < 256 ^ width_of i) n (λ h. absurd (omega arith)) (λ h k. omega arith) (λ h k. omega arith) (λ h k. omega arith) (λ h. omega arith)

pub width_most : (i : ℕ) → width_of i ≤ 8
unfolding width_of
width_most i =
    either Most (ltb i 24) (λ t. omega arith) (λ t.
    either Most (eqb i 24) (λ t. omega arith) (λ t.
    either Most (eqb i 25) (λ t. omega arith) (λ t. either Most (eqb i 26) (λ t. omega arith) (λ t. omega arith))))
  where
    Most : ℕ → Type 0
    Most k = k ≤ 8

-- a number below 24 is in the first byte
pub head_low : (major n : ℕ) → n < 24 → head_of major n ≡ (major * 32 + n) ∷ []
unfolding head_of digits
head_low major n h = rw (info_low n h, width_none n h)

-- ---- lengths

pub length_head : (major n : ℕ) → length (head_of major n) ≡ head_size n
unfolding head_of head_size
length_head major n = omega (arith, length_digits 256 (width_of (info_of n)) n)

pub size_some : (n : ℕ) → 1 ≤ head_size n
unfolding head_size
size_some n = omega arith

pub size_most : (n : ℕ) → head_size n ≤ 9
unfolding head_size
size_most n = omega (arith, width_most (info_of n))

pub size_one : (n : ℕ) → n < 24 → head_size n ≡ 1
unfolding head_size
size_one n h = omega (arith, width_none (info_of n) (rw (info_low n h) h))

pub size_two : (n : ℕ) → 24 ≤ n → n < 256 → head_size n ≡ 2
unfolding head_size width_of
size_two n l h = sizes (λ (i : ℕ). 1 + width_of i ≡ 2) n (λ k. absurd (omega arith)) (λ k m. refl) (λ k m. absurd (omega arith)) (λ k m. absurd (omega arith)) (λ k. absurd (omega arith))

pub length_float : (value : ℕ) → length (float_of value) ≡ 1 + bytes_of (shortest (magnitude Double value))
unfolding float_of float_as
length_float value =
    omega (arith, length_digits 256 (bytes_of (shortest (magnitude Double value))) (narrowed_bits (shortest (magnitude Double value)) value))

pub float_most : (value : ℕ) → length (float_of value) ≤ 9
unfolding bytes_of exponent_bits fraction_bits
float_most value = omega (arith, length_float value, most (shortest (magnitude Double value)))
  where
    most : (w : Width) → bytes_of w ≤ 8
    most Half = omega arith
    most Single = omega arith
    most Double = omega arith

pub length_string : (major : ℕ) (bs : List ℕ) → length (string_of major bs) ≡ head_size (length bs) + length bs
unfolding string_of
length_string major bs = length-append (head_of major (length bs)) bs ∙ ap (λ (k : ℕ). k + length bs) (length_head major (length bs))

pub length_string_field : (name : List ℕ) (major : ℕ) (bs : List ℕ)
    → length (string_field_of name major bs) ≡ head_size (length name) + length name + (head_size (length bs) + length bs)
unfolding string_field_of
length_string_field name major bs =
    omega (arith, length-append (string_of 3 name) (string_of major bs), length_string 3 name, length_string major bs)

pub length_number_field : (name : List ℕ) (n : ℕ) → length (number_field_of name n) ≡ head_size (length name) + length name + head_size n
unfolding number_field_of
length_number_field name n = omega (arith, length-append (string_of 3 name) (head_of 0 n), length_string 3 name, length_head 0 n)

-- a key and a string of 24 to 255 bytes
pub length_field_two : (name : List ℕ) (major : ℕ) (bs : List ℕ) → length name < 24 → 24 ≤ length bs → length bs < 256
    → length (string_field_of name major bs) ≡ length name + length bs + 3
length_field_two name major bs k a b =
    omega (arith, length_string_field name major bs, size_one (length name) k, size_two (length bs) a b)

-- a key and a number below 24
pub length_number_field_one : (name : List ℕ) (n : ℕ) → length name < 24 → n < 24 → length (number_field_of name n) ≡ length name + 2
length_number_field_one name n k l = omega (arith, length_number_field name n, size_one (length name) k, size_one n l)
