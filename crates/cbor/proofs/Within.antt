-- Bytes are there or the input ends before; and what was read lies within the input and within its
-- range. Assumes nothing.
use Prim.Native.Nat.{ℕ, ◌+◌, ◌-◌, ◌<◌, ◌≤◌}
use mathlib.Core.Path.{◌≡◌, refl, sym, ap, ◌∙◌}
use mathlib.Core.Bool.{Bool, true, false}
use mathlib.Core.List.{List}
use native.Mathlib.Omega.{arith}
use borrow.Author.Tests.{le-leb, lt-leb, leb-true}
use lib.Dec.{leb, eqb}
use lib.ListN.{length, take, drop, length-drop}
use lib.Seq.{length-take-le}
use Rattle.wire.specs.Answer.{demand, refused, Got, got}
use Rattle.wire.specs.Number.{number}
use Rattle.wire.proofs.Cases.{not_done, passed, then_passed, got_next, got_value}
use Rattle.wire.specs.declared.Span.{Span}
use Rattle.lend.specs.Same.{same}
use Rattle.cbor.specs.Item.{big_endian_at, name_at, key_at, head_at, number_at, contents_at, string_at, string_field_at, number_field_at}

module _ (s : List ℕ) (at k : ℕ) where
  pub contents_there : at + k ≤ length s → got (record { start = at; len = k }) (at + k) ≡ contents_at s at k
  unfolding contents_at
  contents_there h = rw (le-leb (at + k) (length s) h)

  pub contents_cut : length s < at + k → refused 3 ≡ contents_at s at k
  unfolding contents_at
  contents_cut h = rw (lt-leb (at + k) (length s) h)

  -- the k bytes are there, up to next
  module _ {v : Span} (next : ℕ) (e : got v next ≡ contents_at s at k) where
    there : (at + k ≤ length s) × (at + k ≡ next)
    unfolding contents_at
    there =
        let p = passed (leb (at + k) (length s)) (got (record { start = at; len = k }) (at + k)) 3 (sym e) in
        (leb-true (at + k) (length s) p.0, got_next p.1)

    pub there_starts : at ≤ next
    there_starts = omega (arith, there.1)

    pub there_ends : next ≤ length s
    there_ends = omega (arith, there.0, there.1)

    pub there_long : next - at ≡ k
    there_long = omega (arith, there.1)

    pub there_few : k ≤ 8 → length (take (next - at) (drop at s)) ≤ 8
    there_few h = omega (arith, there_long, length-take-le (next - at) (drop at s) (omega (arith, there.0, there_long, length-drop at s)))

    pub number_there : (n : ℕ) → n ≡ number 256 (take (next - at) (drop at s)) → got n next ≡ big_endian_at s at k
    unfolding big_endian_at
    number_there n f =
        let m : n ≡ number 256 (take k (drop at s)) = f ∙ ap (λ (j : ℕ). number 256 (take j (drop at s))) there_long in
        rw (le-leb (at + k) (length s) there.0, ← m, there.1)

  pub number_cut : (e : ℕ) → refused e ≡ contents_at s at k → refused e ≡ big_endian_at s at k
  unfolding contents_at big_endian_at
  number_cut e h = go (leb (at + k) (length s)) h
    where
      go : (t : Bool) → ◌≡◌ {A = Got Span} (refused e) (demand t 3 (got (record { start = at; len = k }) (at + k)))
          → ◌≡◌ {A = Got ℕ} (refused e) (demand t 3 (got (number 256 (take k (drop at s))) (at + k)))
      go true p = not_done p
      go false p = cc

-- the contents of a key: r is what the comparison with the bytes up to next said
module _ (s : List ℕ) (at : ℕ) (name : List ℕ) where
  pub name_cut : (e : ℕ) → refused e ≡ contents_at s at (length name) → refused e ≡ name_at s at name
  unfolding contents_at name_at
  name_cut e h = go (leb (at + length name) (length s)) h
    where
      go : (t : Bool) → ◌≡◌ {A = Got Span} (refused e) (demand t 3 (got (record { start = at; len = length name }) (at + length name)))
          → ◌≡◌ {A = Got Unit} (refused e) (demand t 3 (demand (same name (take (length name) (drop at s))) 18 (got tt (at + length name))))
      go true p = not_done p
      go false p = cc

  module _ {v : Span} (next : ℕ) (f : got v next ≡ contents_at s at (length name)) (r : Bool) (e : r ≡ same name (take (next - at) (drop at s))) where
    said : same name (take (length name) (drop at s)) ≡ r
    said = ap (λ (j : ℕ). same name (take j (drop at s))) (sym (there_long s at (length name) next f)) ∙ sym e

    pub name_there : r ≡ true → got tt next ≡ name_at s at name
    unfolding name_at
    name_there h =
        let t = there s at (length name) next f in
        rw (le-leb (at + length name) (length s) t.0, said, h, t.1)

    pub name_other : r ≡ false → refused 18 ≡ name_at s at name
    unfolding name_at
    name_other h =
        let t = there s at (length name) next f in
        rw (le-leb (at + length name) (length s) t.0, said, h)

-- ---- for callers: what an answer says of its values

-- contents that were read lie within the input
pub contents_within : (s : List ℕ) (at len : ℕ) {v : Span} {next : ℕ} → contents_at s at len ≡ got v next → (v.len ≡ len) × (v.start + v.len ≡ next) × (next ≤ length s)
unfolding contents_at
contents_within s at len {v} {next} h =
    let t = passed (leb (at + len) (length s)) (got (record { start = at; len = len }) (at + len)) 3 h in
    let e : ◌≡◌ {A = Span} (record { start = at; len = len }) v = got_value t.1 in
    let n : at + len ≡ next = got_next t.1 in
    let l = leb-true (at + len) (length s) t.0 in
    rw (← e) (refl, n, omega arith)

-- a number is in the range that was asked for
pub number_within : (s : List ℕ) (at kind least most fault : ℕ) {n next : ℕ} → number_at s at kind least most fault ≡ got n next → (least ≤ n) × (n ≤ most)
unfolding number_at
number_within s at kind least most fault {n} h =
    let t = then_passed (head_at s at kind) _ h in
    let u = passed (eqb t.0.major kind) _ fault t.3 in
    let v = passed (leb least t.0.n) _ fault u.1 in
    let w = passed (leb t.0.n most) (got t.0.n t.1) fault v.1 in
    let f : t.0.n ≡ n = got_value w.1 in
    let a = leb-true least t.0.n v.0 in
    let b = leb-true t.0.n most w.0 in
    (omega arith, omega arith)

-- a string lies within the input, and its length is in the range that was asked for
abbrev pub Inside : List ℕ → ℕ → ℕ → Span → ℕ → Type 0
Inside s least most v next = (v.start + v.len ≡ next) × (next ≤ length s) × (least ≤ v.len) × (v.len ≤ most)

pub string_within : (s : List ℕ) (at kind least most fault : ℕ) {v : Span} {next : ℕ} → string_at s at kind least most fault ≡ got v next → Inside s least most v next
unfolding string_at
string_within s at kind least most fault h =
    let t = then_passed (number_at s at kind least most fault) _ h in
    let n = number_within s at kind least most fault t.2 in
    let c = contents_within s t.1 t.0 t.3 in
    (c.1, c.2, omega (arith, c.0, n.0), omega (arith, c.0, n.1))

module _ (s : List ℕ) (at : ℕ) (name : List ℕ) where
  pub string_field_within : (kind least most fault : ℕ) {v : Span} {next : ℕ} → string_field_at s at name kind least most fault ≡ got v next → Inside s least most v next
  unfolding string_field_at
  string_field_within kind least most fault h =
      let t = then_passed (key_at s at name) _ h in
      string_within s t.1 kind least most fault t.3

  pub number_field_within : (least most : ℕ) {n next : ℕ} → number_field_at s at name least most ≡ got n next → (least ≤ n) × (n ≤ most)
  unfolding number_field_at
  number_field_within least most h =
      let t = then_passed (key_at s at name) _ h in
      number_within s t.1 0 least most 19 t.3
