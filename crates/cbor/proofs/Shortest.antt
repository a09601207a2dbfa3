-- The shortest width that has a number, and its form there. Assumes nothing.
use Prim.Native.Nat.{ℕ, ◌*◌, ◌^◌, ◌<◌, ◌≤◌}
use mathlib.Core.Path.{◌≡◌, refl, sym, ap, ap₂, ◌∙◌}
use mathlib.Core.Bool.{true, false, false≢true}
use mathlib.Core.List.{◌∷◌}
use native.Mathlib.Omega.{arith}
use borrow.Author.Tests.{ltb-false, lt-leb, leb-true, eqb-true, eqb-false}
use lib.Dec.{leb, eqb}
use Rattle.wire.specs.Number.{big_endian}
use Rattle.wire.proofs.Cases.{both_hold}
use Rattle.cbor.specs.Float.{exponent_bits, fraction_bits, sign_of, infinity_of, finite, widened, holds, shortest, magnitude, widened_bits, narrowed_bits}
use Rattle.cbor.specs.Form.{first_of, bytes_of, float_as, float_of}
use Rattle.cbor.specs.Item.{is_float, width_by}
use Rattle.cbor.specs.declared.Width.{Width}
use Rattle.cbor.specs.declared.Width.TheVariants.{Half, Single, Double}
use Rattle.cbor.proofs.Sizes.{either}
use Rattle.cbor.proofs.Floats.{Form, holds_form, holds_finite, holds_widened, holds_double, narrowed_widened_bits, narrowed_bits_double}

-- the three cases
shortest_cases : (P : Width → Type 0) (d : ℕ) → (holds Half d ≡ true → P Half) → (holds Half d ≡ false → holds Single d ≡ true → P Single)
    → (holds Half d ≡ false → holds Single d ≡ false → P Double) → P (shortest d)
unfolding shortest
shortest_cases P d h s w = either P (holds Half d) h (λ e. either P (holds Single d) (s e) (w e))

pub shortest_form : (d : ℕ) → d < infinity_of Double → Form (shortest d) d
shortest_form d h =
    shortest_cases (λ (w : Width). Form w d) d (holds_form Half d) (λ a. holds_form Single d) (λ a b. holds_form Double d (holds_double d h))

-- For the reader: no shorter width has the number
pub shortest_least : (w : Width) (m : ℕ) → m < infinity_of w → bytes_of (shortest (widened w m)) ≤ bytes_of w
unfolding bytes_of exponent_bits fraction_bits
shortest_least Half m h =
    shortest_cases (λ (w : Width). bytes_of w ≤ 2) (widened Half m) (λ a. omega arith) (λ a b. absurd (false≢true (sym a ∙ holds_widened Half m h)))
    (λ a b. absurd (false≢true (sym a ∙ holds_widened Half m h)))
shortest_least Single m h =
    shortest_cases (λ (w : Width). bytes_of w ≤ 4) (widened Single m) (λ a. omega arith) (λ a b. omega arith)
    (λ a b. absurd (false≢true (sym b ∙ holds_widened Single m h)))
shortest_least Double m h =
    shortest_cases (λ (w : Width). bytes_of w ≤ 8) (widened Double m) (λ a. omega arith) (λ a b. omega arith) (λ a b. omega arith)

-- For the reader: what is not finite is laid out as the 64 bits of its double
not_finite : (value : ℕ) → value < 2 ^ 64 → finite Double value ≡ false → float_of value ≡ 0xFB ∷ big_endian 8 value
unfolding float_of float_as first_of bytes_of finite exponent_bits fraction_bits
not_finite value l h =
    shortest_cases (λ (w : Width). float_as w value ≡ 0xFB ∷ big_endian 8 value) (magnitude Double value) (λ a. absurd (too_large Half a)) (λ a b. absurd (too_large Single b))
    (λ a b. ap (λ (i : ℕ). 0xFB ∷ big_endian 8 i) (narrowed_bits_double value l))
  where
    too_large : (w : Width) → holds w (magnitude Double value) ≡ true → ⊥
    too_large w a = omega (arith, holds_finite w (magnitude Double value) a, ltb-false (magnitude Double value) (infinity_of Double) h)

-- the first byte tells the width
pub first_once : (v w : Width) → first_of v ≡ first_of w → v ≡ w
unfolding first_of
first_once Half Half e = refl
first_once Half Single e = absurd (omega arith)
first_once Half Double e = absurd (omega arith)
first_once Single Half e = absurd (omega arith)
first_once Single Single e = refl
first_once Single Double e = absurd (omega arith)
first_once Double Half e = absurd (omega arith)
first_once Double Single e = absurd (omega arith)
first_once Double Double e = refl

pub first_float : (w : Width) → (is_float (first_of w) ≡ true) × (width_by (first_of w) ≡ w)
unfolding is_float width_by first_of
first_float Half = (refl, refl)
first_float Single = (refl, refl)
first_float Double = (refl, refl)

pub not_float : (x : ℕ) → x < 0xF9 → is_float x ≡ false
unfolding is_float first_of
not_float x h = rw (lt-leb 0xF9 x h)

pub float_first : (x : ℕ) → is_float x ≡ true → x ≡ first_of (width_by x)
unfolding is_float width_by first_of
float_first x h =
    let t = both_hold (leb 0xF9 x) (leb x 0xFB) h in
    either (λ (w : Width). x ≡ first_of w) (eqb x 0xF9) (λ e. eqb-true x 0xF9 e) (λ e.
    either (λ (w : Width). x ≡ first_of w) (eqb x 0xFA) (λ d. eqb-true x 0xFA d) (λ d.
    not_others x (leb-true 0xF9 x t.0) (leb-true x 0xFB t.1) (eqb-false x 0xF9 e) (eqb-false x 0xFA d)))
  where
    not_others : (x : ℕ) → 0xF9 ≤ x → x ≤ 0xFB → (x ≡ 0xF9 → ⊥) → (x ≡ 0xFA → ⊥) → x ≡ 0xFB
    not_others x a b c d = omega arith

-- its bytes hold a sign and a magnitude
pub bytes_hold_lem : (w : Width) → 256 ^ bytes_of w ≡ 2 * sign_of w
unfolding bytes_of sign_of exponent_bits fraction_bits
bytes_hold_lem Half = refl
bytes_hold_lem Single = refl
bytes_hold_lem Double = refl

-- For the reader: two forms that are the shortest of their numbers, and stand for one, are one
-- form, whatever their widths
pub forms_once : (v w : Width) (one other : ℕ) → one < 2 * sign_of v → other < 2 * sign_of w
    → shortest (magnitude Double (widened_bits v one)) ≡ v → shortest (magnitude Double (widened_bits w other)) ≡ w → widened_bits v one ≡ widened_bits w other
    → (v ≡ w) × (one ≡ other)
forms_once v w one other l k e d h =
    let c : v ≡ w = sym e ∙ ap (λ (i : ℕ). shortest (magnitude Double i)) h ∙ d in
    (c, sym (narrowed_widened_bits v one l) ∙ ap₂ narrowed_bits c h ∙ narrowed_widened_bits w other k)
