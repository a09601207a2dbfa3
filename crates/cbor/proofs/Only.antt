-- What is read is the written form of its value, and no other form of it is read. Assumes nothing.
use Prim.Native.Nat.{ℕ, ◌+◌, ◌*◌, ◌/◌, ◌%◌, ◌^◌, ◌≤◌, ◌<◌}
use mathlib.Core.Path.{◌≡◌, refl, sym, ap, ap₂, ◌∙◌, subst}
use mathlib.Core.Logic.{⊎_elim}
use mathlib.Core.Bool.{true, false}
use mathlib.Core.List.{List, [], ◌∷◌, ◌++◌}
use native.Mathlib.Nat.{pow-le-pow_right}
use native.Mathlib.Omega.{arith}
use mir.Val.{Fits}
use mir.Syntax.{w64}
use borrow.Author.Tests.{ltb-true, leb-true, eqb-true}
use lib.Dec.{ltb, leb, eqb, lit<}
use lib.ListN.{length, take, drop, get_or, length-drop, get_or-eq_default}
use lib.Seq.{length-take-le, get_or-take, get_or-drop}
use Rattle.wire.specs.Answer.{Got, got}
use Rattle.wire.specs.Number.{Bytes, big_endian, digits, number}
use Rattle.wire.proofs.Cases.{lt_or_le, passed, then_passed, got_next, got_value}
use Rattle.wire.proofs.Digits.{digits_number, number_lt}
use Rattle.wire.proofs.Standing.{Stands, stands_all, stands_none, stands_as, stands_join, stands_part, byte_stands}
use Rattle.wire.specs.declared.Span.{Span}
use Rattle.wire.specs.Span.{part_at}
use Rattle.lend.specs.Same.{same}
use Rattle.lend.proofs.Sames.{same_eq}
use Rattle.cbor.specs.Form.{info_of, width_of, head_of, string_of, first_of, bytes_of, float_as, float_of, string_field_of, number_field_of}
use Rattle.cbor.specs.Item.{byte_at, one_at, big_endian_at, argument_at, kind_of, head_at, number_at, contents_at, string_at, name_at, key_at, is_float, width_by, body_at, float_at, string_field_at, number_field_at, any_field_at}
use Rattle.cbor.specs.Float.{sign_of, finite, shortest, magnitude, widened_bits, narrowed_bits}
use Rattle.cbor.specs.declared.Head.{Head}
use Rattle.cbor.specs.declared.Width.{Width}
use Rattle.cbor.specs.declared.Width.TheVariants.{Double}
use Rattle.cbor.proofs.Floats.{finite_below, below_finite, widened_finite, magnitude_widened, narrowed_widened_bits, widened_bits_below}
use Rattle.cbor.proofs.Shortest.{first_once, float_first, bytes_hold_lem}
use Rattle.cbor.proofs.Sizes.{either, width_none, width_most, head_low}
use Rattle.cbor.proofs.Within.{contents_within}

-- a part of the input is of bytes, as all of it is
part_bytes : (s : List ℕ) (at k : ℕ) → length (take k (drop at s)) ≡ k → Bytes s → Bytes (take k (drop at s))
part_bytes s at k c y i =
    ⊎_elim (λ (l : i < k). rw (get_or-take k (drop at s) i 0 l, get_or-drop at s i 0) (y (at + i)))
    (λ (l : k ≤ i). rw (get_or-eq_default (take k (drop at s)) 0 {n = i} (omega arith)) (lit< tt))
    (lt_or_le i k)

module _ {s : List ℕ} where
  pub byte_only : {at next x : ℕ} → byte_at s at ≡ got x next → Stands s at (x ∷ []) next
  byte_only {at} {next} {x} h =
      let t = passed (ltb at (length s)) (got (get_or s at 0) (at + 1)) 3 h in
      let e : get_or s at 0 ≡ x = got_value t.1 in
      let n : at + 1 ≡ next = got_next t.1 in
      rw (← e, ← n) (byte_stands at (ltb-true at (length s) t.0))

  pub one_only : {at next : ℕ} (x : ℕ) {v : Unit} → one_at s at x ≡ got v next → Stands s at (x ∷ []) next
  unfolding one_at
  one_only {at} {next} x h =
      let t = then_passed (byte_at s at) _ h in
      let u = passed (eqb t.0 x) (got tt t.1) 18 t.3 in
      let n : t.1 ≡ next = got_next u.1 in
      stands_as (ap (λ (b : ℕ). b ∷ []) (eqb-true t.0 x u.0)) n (byte_only t.2)

  pub big_endian_only : {at next : ℕ} (k : ℕ) {n : ℕ} → Bytes s → big_endian_at s at k ≡ got n next → Stands s at (big_endian k n) next × (n < 256 ^ k)
  unfolding big_endian_at
  big_endian_only {at} {next} k {n} y h =
      let t = passed (leb (at + k) (length s)) (got (number 256 (take k (drop at s))) (at + k)) 3 h in
      let l = leb-true (at + k) (length s) t.0 in
      let e : number 256 (take k (drop at s)) ≡ n = got_value t.1 in
      let p : at + k ≡ next = got_next t.1 in
      let c : length (take k (drop at s)) ≡ k = length-take-le k (drop at s) (omega (arith, length-drop at s)) in
      let b : Bytes (take k (drop at s)) = part_bytes s at k c y in
      let d : take k (drop at s) ≡ big_endian k n = sym (digits_number 256 (take k (drop at s)) k c b) ∙ ap (big_endian k) e in
      (stands_as d p (stands_part at k l), subst (λ (v : ℕ). v < 256 ^ k) e (number_lt 256 (take k (drop at s)) k c b))

  pub contents_only : {at next : ℕ} (len : ℕ) {v : Span} → contents_at s at len ≡ got v next → Stands s at (part_at s v) next × (length (part_at s v) ≡ v.len)
  unfolding contents_at
  contents_only {at} {next} len {v} h =
      let t = passed (leb (at + len) (length s)) (got (record { start = at; len = len }) (at + len)) 3 h in
      let l = leb-true (at + len) (length s) t.0 in
      let e : ◌≡◌ {A = Span} (record { start = at; len = len }) v = got_value t.1 in
      let n : at + len ≡ next = got_next t.1 in
      rw (← e, ← n) (stands_part at len l, length-take-le len (drop at s) (omega (arith, length-drop at s)))

  pub name_only : {at next : ℕ} (name : List ℕ) {v : Unit} → name_at s at name ≡ got v next → Stands s at name next
  unfolding name_at
  name_only {at} {next} name h =
      let t = passed (leb (at + length name) (length s)) _ 3 h in
      let u = passed (same name (take (length name) (drop at s))) (got tt (at + length name)) 18 t.1 in
      let n : at + length name ≡ next = got_next u.1 in
      stands_as (sym (same_eq name (take (length name) (drop at s)) u.0)) n (stands_part at (length name) (leb-true (at + length name) (length s) t.0))

  -- the number of a head, after its first byte
  argument_only : {at next : ℕ} (info : ℕ) {n : ℕ} → at ≤ length s → Bytes s → argument_at s at info ≡ got n next
      → Stands s at (big_endian (width_of info) n) next × (n < 2 ^ 64)
  unfolding argument_at digits
  argument_only {at} {next} info {n} m y h = either (λ (g : Got ℕ). g ≡ got n next → Stands s at (big_endian (width_of info) n) next × (n < 2 ^ 64)) (ltb info 24) low high h
    where
      low : ltb info 24 ≡ true → got info at ≡ got n next → Stands s at (big_endian (width_of info) n) next × (n < 2 ^ 64)
      low t e =
          let l = ltb-true info 24 t in
          (stands_as (ap (λ (k : ℕ). big_endian k n) (sym (width_none info l))) (got_next e) (stands_none at m), omega (arith, got_value e))

      high : ltb info 24 ≡ false → big_endian_at s at (width_of info) ≡ got n next → Stands s at (big_endian (width_of info) n) next × (n < 2 ^ 64)
      high t e =
          let r = big_endian_only (width_of info) y e in
          (r.0, omega (arith, r.1, pow-le-pow_right {n = 256} (lit< tt) {i = width_of info} {j = 8} (width_most info)))

module _ {s : List ℕ} where
  pub head_only : {at next : ℕ} (kind : ℕ) {h : Head} → Bytes s → head_at s at kind ≡ got h next
      → Stands s at (head_of h.major h.n) next × (kind_of h.major ≡ kind) × (h.n < 2 ^ 64)
  unfolding head_at head_of
  head_only {at} {next} kind {h} y e =
      let t = then_passed (byte_at s at) _ e in
      let b : Stands s at (t.0 ∷ []) t.1 = byte_only t.2 in
      let u = passed (eqb (kind_of (t.0 / 32)) kind) _ 18 t.3 in
      let v = passed (leb (t.0 % 32) 27) _ 18 u.1 in
      let w = then_passed (argument_at s t.1 (t.0 % 32)) _ v.1 in
      let a : Stands s t.1 (big_endian (width_of (t.0 % 32)) w.0) w.1 × (w.0 < 2 ^ 64) = argument_only (t.0 % 32) b.within y w.2 in
      let z = passed (eqb (info_of w.0) (t.0 % 32)) (got (record { major = t.0 / 32; n = w.0 }) w.1) 18 w.3 in
      let i : info_of w.0 ≡ t.0 % 32 = eqb-true (info_of w.0) (t.0 % 32) z.0 in
      let f : ◌≡◌ {A = Head} (record { major = t.0 / 32; n = w.0 }) h = got_value z.1 in
      let n : w.1 ≡ next = got_next z.1 in
      let first : t.0 ≡ t.0 / 32 * 32 + info_of w.0 = omega arith in
      subst (λ (h : Head). Stands s at (head_of h.major h.n) next × (kind_of h.major ≡ kind) × (h.n < 2 ^ 64)) f
      (stands_as (ap₂ (λ (b i : ℕ). b ∷ big_endian (width_of i) w.0) first (sym i)) n (stands_join b a.0), eqb-true (kind_of (t.0 / 32)) kind u.0, a.1)

  pub number_only : {at next : ℕ} (kind least most fault : ℕ) {n : ℕ} → Bytes s → number_at s at kind least most fault ≡ got n next
      → Stands s at (head_of kind n) next × (n < 2 ^ 64)
  unfolding number_at
  number_only {at} {next} kind least most fault {n} y e =
      let t = then_passed (head_at s at kind) _ e in
      let h = head_only kind y t.2 in
      let u = passed (eqb t.0.major kind) _ fault t.3 in
      let v = passed (leb least t.0.n) _ fault u.1 in
      let w = passed (leb t.0.n most) (got t.0.n t.1) fault v.1 in
      let f : t.0.n ≡ n = got_value w.1 in
      let p : t.1 ≡ next = got_next w.1 in
      (stands_as (ap₂ head_of (eqb-true t.0.major kind u.0) f) p h.0, omega (arith, h.2))

  body_only : {at next value : ℕ} (w : Width) → Bytes s → body_at s at w ≡ got value next
      → Stands s at (big_endian (bytes_of w) (narrowed_bits w value)) next × (shortest (magnitude Double value) ≡ w) × (value < 2 ^ 64)
      × (finite Double value ≡ true)
  unfolding body_at
  body_only {at} {next} {value} w y e =
      let t = then_passed (big_endian_at s at (bytes_of w)) _ e in
      let r = big_endian_only (bytes_of w) y t.2 in
      let u = passed (finite w t.0) _ 19 t.3 in
      let z = passed (eqb (first_of (shortest (magnitude Double (widened_bits w t.0)))) (first_of w)) (got (widened_bits w t.0) t.1) 18 u.1 in
      let v : widened_bits w t.0 ≡ value = got_value z.1 in
      let n : t.1 ≡ next = got_next z.1 in
      let l : t.0 < 2 * sign_of w = subst (λ (i : ℕ). t.0 < i) (bytes_hold_lem w) r.1 in
      let b : t.0 ≡ narrowed_bits w value = sym (narrowed_widened_bits w t.0 l) ∙ ap (narrowed_bits w) v in
      let q = first_once (shortest (magnitude Double (widened_bits w t.0))) w (eqb-true _ _ z.0) in
      let f : finite Double (widened_bits w t.0) ≡ true =
      below_finite Double (widened_bits w t.0) (rw (magnitude_widened w t.0) (widened_finite w (magnitude w t.0) (finite_below w t.0 u.0))) in (
        stands_as (ap (big_endian (bytes_of w)) b) n r.0,
        subst (λ (i : ℕ). shortest (magnitude Double i) ≡ w) v q,
        subst (λ (i : ℕ). i < 2 ^ 64) v (widened_bits_below w t.0),
        subst (λ (i : ℕ). finite Double i ≡ true) v f,
      )

  pub float_only : {at next value : ℕ} → Bytes s → float_at s at ≡ got value next
      → Stands s at (float_of value) next × (value < 2 ^ 64) × (finite Double value ≡ true)
  unfolding float_at float_of float_as
  float_only {at} {next} {value} y e =
      let t = then_passed (byte_at s at) _ e in
      let u = passed (is_float t.0) _ 18 t.3 in
      let r = body_only (width_by t.0) y u.1 in
      let b : Stands s at (t.0 ∷ []) t.1 = byte_only t.2 in
      let f : t.0 ≡ first_of (width_by t.0) = float_first t.0 u.0 in
      rw r.1 (stands_join (stands_as (ap (λ (x : ℕ). x ∷ []) f) refl b) r.0, r.2, r.3)

  pub key_only : {at next : ℕ} (name : List ℕ) {v : Unit} → key_at s at name ≡ got v next → Stands s at (string_of 3 name) next × (length name < 24)
  unfolding key_at string_of
  key_only {at} name e =
      let t = passed (ltb (length name) 24) _ 18 e in
      let l = ltb-true (length name) 24 t.0 in
      let u = then_passed (one_at s at (96 + length name)) _ t.1 in
      (stands_as (ap (λ (h : List ℕ). h ++ name) (sym (head_low 3 (length name) l))) refl (stands_join (one_only (96 + length name) u.2) (name_only name u.3)), l)

module _ {s : List ℕ} where
  pub string_only : {at next : ℕ} (kind least most fault : ℕ) {v : Span} → Bytes s → string_at s at kind least most fault ≡ got v next
      → Stands s at (string_of kind (part_at s v)) next × (length (part_at s v) ≡ v.len)
  unfolding string_at string_of
  string_only {at} kind least most fault {v} y e =
      let t = then_passed (number_at s at kind least most fault) _ e in
      let n = number_only kind least most fault y t.2 in
      let c = contents_only t.0 t.3 in
      let l : t.0 ≡ length (part_at s v) = sym (contents_within s t.1 t.0 t.3).0 ∙ sym c.1 in
      (stands_join (stands_as (ap (head_of kind) l) refl n.0) c.0, c.1)

module _ {s : List ℕ} (name : List ℕ) where
  pub string_field_only : {at next : ℕ} (kind least most fault : ℕ) {v : Span} → Bytes s → string_field_at s at name kind least most fault ≡ got v next
      → Stands s at (string_field_of name kind (part_at s v)) next × (length (part_at s v) ≡ v.len)
  unfolding string_field_at string_field_of
  string_field_only {at} kind least most fault y e =
      let t = then_passed (key_at s at name) _ e in
      let r = string_only kind least most fault y t.3 in
      (stands_join (key_only name t.2).0 r.0, r.1)

  pub number_field_only : {at next : ℕ} (least most : ℕ) {n : ℕ} → Bytes s → number_field_at s at name least most ≡ got n next
      → Stands s at (number_field_of name n) next
  unfolding number_field_at number_field_of
  number_field_only {at} least most y e =
      let t = then_passed (key_at s at name) _ e in
      let r = number_only 0 least most 19 y t.3 in
      stands_join (key_only name t.2).0 r.0

-- For the reader: one encoding for each value (R10.8). Two inputs that are each a float of this
-- value are one, whichever widths they have
float_once : {s t : List ℕ} {value : ℕ} → Bytes s → Bytes t → float_at s 0 ≡ got value (length s) → float_at t 0 ≡ got value (length t) → s ≡ t
float_once x y d e = stands_all (float_only x d).0 ∙ sym (stands_all (float_only y e).0)

-- a key, and the first byte behind it
pub any_field_only : {s : List ℕ} {at a x : ℕ} (name : List ℕ) → any_field_at s at name ≡ got x a → Stands s at (string_of 3 name) a × Stands s a (x ∷ []) (a + 1)
unfolding any_field_at
any_field_only {s} {at} {a} {x} name h =
    let k = then_passed (key_at s at name) _ h in
    let b = then_passed (byte_at s k.1) _ k.3 in
    let f : b.0 ≡ x = got_value b.3 in
    let n : k.1 ≡ a = got_next b.3 in
    let r : Stands s k.1 (b.0 ∷ []) b.1 = byte_only b.2 in
    let d : Stands s k.1 (x ∷ []) (k.1 + 1) = stands_as (ap (λ (z : ℕ). z ∷ []) f) r.ends r in
    (stands_as refl n (key_only name k.2).0, subst (λ (i : ℕ). Stands s i (x ∷ []) (i + 1)) n d)

-- for `search`: the position past that byte
pub any_field_next : (s : List ℕ) (at : ℕ) (name : List ℕ) (x a : ℕ) → got x a ≡ any_field_at s at name → length s < 2 ^ 64 → Fits w64 (a + 1)
any_field_next s at name x a e l = record { fits = omega (arith, (any_field_only name (sym e)).1.within) }
