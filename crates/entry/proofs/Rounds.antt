-- What is written reads back, and what is read was written: one form for each entry.
-- Assumes nothing.
use Prim.Native.Nat.{ℕ, ◌+◌, ◌*◌, ◌<◌, ◌≤◌}
use mathlib.Core.Path.{◌≡◌, refl, sym, ap, ap₂, ◌∙◌, subst}
use mathlib.Core.Bool.{Bool, true, false}
use mathlib.Core.List.{List, [], ◌∷◌, ◌++◌}
use native.Mathlib.Omega.{arith}
use borrow.Author.Tests.{ltb-true, lt-ltb, ne_eqb, eqb-true}
use lib.Dec.{ltb, eqb}
use lib.ListN.{length}
use Rattle.std.specs.Prelude.{Option, Some, None}
use Rattle.wire.specs.Answer.{choose, then, Got, got}
use Rattle.wire.specs.Number.{Bytes, big_endian}
use Rattle.wire.proofs.Cases.{passed, then_passed, got_next, got_value}
use Rattle.wire.proofs.Standing.{Stands, stands_first, stands_second, stands_join, stands_as}
use Rattle.wire.specs.declared.Span.{Span}
use Rattle.wire.specs.Span.{part_at}
use Rattle.path.specs.Order.{below}
use Rattle.path.specs.Path.{path_least, path_most, path_allowed}
use Rattle.path.proofs.Paths.{allowed_length}
use Rattle.cbor.specs.Form.{info_of, width_of, head_of, string_of, string_field_of, number_field_of}
use Rattle.cbor.specs.Item.{byte_at, one_at, kind_of, head_at, string_field_at, number_field_at, any_field_at}
use Rattle.cbor.specs.declared.Head.{Head}
use Rattle.wire.specs.Ascii.{ascii}
use Rattle.cbor.proofs.Sizes.{info_most, either}
use Rattle.cbor.proofs.Within.{string_field_within, number_field_within}
use Rattle.cbor.proofs.Written.{kind_bytes, kind_text, byte_back, one_back, head_back, string_field_back, number_field_back, any_field_back}
use Rattle.cbor.proofs.Only.{one_only, head_only, string_field_only, number_field_only, any_field_only}
use Rattle.entry.specs.File.{integer_at, integer_by, mtime_at, path_at, file_at}
use Rattle.entry.specs.Writing.{Entry, entry_in, integer_of, mtime_of, entry_of, file_of, mtime_allowed}
use Rattle.entry.specs.declared.Integer.{Integer}
use Rattle.entry.specs.declared.File.{File}
use Rattle.entry.proofs.Sizes.{part_length}
use Rattle.entry.proofs.Writers.{Named, Good}

-- ---- integers

-- the major type of a sign
sign_kind : (negative : Bool) → kind_of (choose negative 1 0) ≡ 0
unfolding kind_of
sign_kind true = refl
sign_kind false = refl

pub sign_major : (negative : Bool) → eqb (choose negative 1 0) 1 ≡ negative
sign_major true = refl
sign_major false = refl

-- a first byte of an integer is at most 3B
sign_first : (negative : Bool) (n : ℕ) → choose negative 1 0 * 32 + info_of n < 64
sign_first true n = omega (arith, info_most n)
sign_first false n = omega (arith, info_most n)

module _ {s : List ℕ} {at next : ℕ} (negative : Bool) (n : ℕ) (l : n < 9223372036854775808) (h : Stands s at (integer_of negative n) next) where
  pub integer_back : integer_at s at ≡ got (record { major = choose negative 1 0; n = n }) next
  unfolding integer_at integer_of
  integer_back =
      let e = ap (head_at s at) (sym (sign_kind negative)) ∙ head_back (choose negative 1 0) n (omega arith) h in
      rw e (rw (lt-ltb n 9223372036854775808 l))

  -- its first byte is neither that of null nor that of a double
  pub integer_first : (x : ℕ) × (byte_at s at ≡ got x (at + 1)) × (x < 64)
  unfolding integer_of head_of
  integer_first =
      let b = stands_first ((choose negative 1 0 * 32 + info_of n) ∷ []) (big_endian (width_of (info_of n)) n) h in
      (choose negative 1 0 * 32 + info_of n, byte_back (choose negative 1 0 * 32 + info_of n) b, sign_first negative n)

-- the two signs of an integer's major type
pub sign_of : (m : ℕ) → kind_of m ≡ 0 → choose (eqb m 1) 1 0 ≡ m
unfolding kind_of
sign_of m e = either (λ (k : ℕ). k ≡ 0 → choose (eqb m 1) 1 0 ≡ m) (eqb m 1) one zero e
  where
    one : eqb m 1 ≡ true → ◌≡◌ {A = ℕ} 0 0 → choose (eqb m 1) 1 0 ≡ m
    one t _ = rw t (sym (eqb-true m 1 t))

    zero : eqb m 1 ≡ false → m ≡ 0 → choose (eqb m 1) 1 0 ≡ m
    zero t z = rw t (sym z)

pub integer_only : {s : List ℕ} {at next : ℕ} {h : Head} → Bytes s → integer_at s at ≡ got h next
    → Stands s at (integer_of (eqb h.major 1) h.n) next × (h.n < 9223372036854775808)
unfolding integer_at integer_of
integer_only {s} {at} {next} {h} y e =
    let t = then_passed (head_at s at 0) _ e in
    let u = passed (ltb t.0.n 9223372036854775808) (got t.0 t.1) 19 t.3 in
    let f : t.0 ≡ h = got_value u.1 in
    let n : t.1 ≡ next = got_next u.1 in
    let r = head_only 0 y t.2 in
    let k : head_of t.0.major t.0.n ≡ head_of (choose (eqb t.0.major 1) 1 0) t.0.n = ap (λ (m : ℕ). head_of m t.0.n) (sym (sign_of t.0.major r.1)) in
    subst (λ (h : Head). Stands s at (head_of (choose (eqb h.major 1) 1 0) h.n) next × (h.n < 9223372036854775808)) f
    (stands_as k n r.0, ltb-true t.0.n 9223372036854775808 u.0)

-- ---- the time of a file

pub mtime_back : {s : List ℕ} {at next : ℕ} (t : Option Integer) → mtime_allowed t ≡ true → Stands s at (string_of 3 (ascii "mtime") ++ mtime_of t) next → mtime_at s at ≡ got t next
unfolding mtime_at mtime_of mtime_allowed
mtime_back {next = next} None a h =
    let k = stands_first (string_of 3 (ascii "mtime")) (0xF6 ∷ []) h in
    let v = stands_second (string_of 3 (ascii "mtime")) (0xF6 ∷ []) h in
    rw (any_field_back (ascii "mtime") (omega arith) k (byte_back 0xF6 v)) (ap (got None) (sym v.ends))
mtime_back {s} {at} (Some v) a h =
    let k = stands_first (string_of 3 (ascii "mtime")) (integer_of v.negative v.n) h in
    let u = stands_second (string_of 3 (ascii "mtime")) (integer_of v.negative v.n) h in
    let l = ltb-true v.n 9223372036854775808 a in
    let b = integer_first v.negative v.n l u in
    rw (any_field_back (ascii "mtime") (omega arith) k b.1, ne_eqb b.0 0xF6 (omega (arith, b.2)), integer_back v.negative v.n l u, sign_major v.negative)

pub mtime_only : {s : List ℕ} {at next : ℕ} {t : Option Integer} → Bytes s → mtime_at s at ≡ got t next → Stands s at (string_of 3 (ascii "mtime") ++ mtime_of t) next × (mtime_allowed t ≡ true)
unfolding mtime_at mtime_of mtime_allowed
mtime_only {s} {at} {next} {t} y e =
    let k = then_passed (any_field_at s at (ascii "mtime")) _ e in
    let o = any_field_only (ascii "mtime") k.2 in
    let v = value k.1 k.0 o.1 k.3 in
    (stands_join o.0 v.0, v.1)
  where
    value : (a x : ℕ) → Stands s a (x ∷ []) (a + 1)
        → choose (eqb x 0xF6) (got None (a + 1)) (then (integer_at s a) (λ (h, next). got (Some (integer_by h)) next)) ≡ got t next
        → Stands s a (mtime_of t) next × (mtime_allowed t ≡ true)
    value a x b = either (λ (g : Got (Option Integer)). g ≡ got t next → Stands s a (mtime_of t) next × (mtime_allowed t ≡ true)) (eqb x 0xF6) null whole
      where
        null : eqb x 0xF6 ≡ true → got None (a + 1) ≡ got t next → Stands s a (mtime_of t) next × (mtime_allowed t ≡ true)
        null q g =
            subst (λ (t : Option Integer). Stands s a (mtime_of t) next × (mtime_allowed t ≡ true)) (got_value g)
            (stands_as (ap (λ (z : ℕ). z ∷ []) (eqb-true x 0xF6 q)) (got_next g) b, refl)

        whole : eqb x 0xF6 ≡ false → then (integer_at s a) (λ (h, next). got (Some (integer_by h)) next) ≡ got t next
            → Stands s a (mtime_of t) next × (mtime_allowed t ≡ true)
        whole q g =
            let i = then_passed (integer_at s a) (λ (h, next). got (Some (integer_by h)) next) g in
            let r = integer_only y i.2 in
            subst (λ (t : Option Integer). Stands s a (mtime_of t) next × (mtime_allowed t ≡ true)) (got_value i.3)
            (stands_as refl (got_next i.3) r.0, lt-ltb i.0.n 9223372036854775808 r.1)

-- ---- the path

pub path_back : {s : List ℕ} {at next : ℕ} (prev path : List ℕ) → path_allowed path ≡ true → below prev path ≡ true → Stands s at (string_field_of (ascii "path") 3 path) next
    → (v : Span) × (path_at s at prev ≡ got v next) × (part_at s v ≡ path)
unfolding path_at
path_back {s} {at} prev path a b h =
    let l = allowed_length path a in
    let r = string_field_back 3 path_least path_most 20 kind_text path (omega (arith, l.1)) l.0 l.1 (ascii "path") (omega arith) h in
    let e = r.2.part in
    (r.0, rw r.1 (rw (e, a, b)), e)

pub path_only : {s : List ℕ} {at next : ℕ} (prev : List ℕ) {v : Span} → Bytes s → path_at s at prev ≡ got v next
    → Stands s at (string_field_of (ascii "path") 3 (part_at s v)) next × Named s prev v
unfolding path_at
path_only {s} {at} {next} prev {v} y e =
    let t = then_passed (string_field_at s at (ascii "path") 3 path_least path_most 20) _ e in
    let u = passed (path_allowed (part_at s t.0)) _ 20 t.3 in
    let w = passed (below prev (part_at s t.0)) (got t.0 t.1) 20 u.1 in
    let f : t.0 ≡ v = got_value w.1 in
    let n : t.1 ≡ next = got_next w.1 in
    let i = string_field_within s at (ascii "path") 3 path_least path_most 20 t.2 in
    subst (λ (v : Span). Stands s at (string_field_of (ascii "path") 3 (part_at s v)) next × Named s prev v) f (
      stands_as refl n (string_field_only (ascii "path") 3 path_least path_most 20 y t.2).0,
      record { within = omega (arith, i.0, i.1); permitted = u.0; above = w.0 },
    )

-- ---- a file

-- what may be said of a file after the path prev
pub record Sound (prev : List ℕ) (e : Entry) : Type 0 where
  pub hash_long : length e.hash ≡ 32
  pub permitted : path_allowed e.path ≡ true
  pub above : below prev e.path ≡ true
  pub sized : e.size ≤ 4294967295
  pub dated : mtime_allowed e.mtime ≡ true

pub good_sound : (pool prev : List ℕ) (f : File) → Good pool prev f → Sound prev (entry_in pool f)
unfolding entry_in
good_sound pool prev f g =
    record {
      hash_long = part_length pool f.hash g.hash_within ∙ g.hash_long;
      permitted = g.named.permitted;
      above = g.named.above;
      sized = g.sized;
      dated = g.dated;
    }

pub file_back : {s : List ℕ} {at next : ℕ} (prev : List ℕ) (e : Entry) → Sound prev e → Stands s at (entry_of e) next
    → (f : File) × (file_at s at prev ≡ got f next) × (entry_in s f ≡ e)
unfolding file_at entry_of entry_in
file_back {s} {at} {next} prev e g t₀ =
    let H : List ℕ = string_field_of (ascii "hash") 2 e.hash in
    let P : List ℕ = string_field_of (ascii "path") 3 e.path in
    let Z : List ℕ = number_field_of (ascii "size") e.size in
    let M : List ℕ = string_of 3 (ascii "mtime") ++ mtime_of e.mtime in
    let t₁ = stands_second (0xA4 ∷ []) (H ++ (P ++ (Z ++ M))) t₀ in
    let t₂ = stands_second H (P ++ (Z ++ M)) t₁ in
    let t₃ = stands_second P (Z ++ M) t₂ in
    let t₄ = stands_second Z M t₃ in
    let h = string_field_back 2 32 32 19 kind_bytes e.hash (omega (arith, g.hash_long)) (omega (arith, g.hash_long)) (omega (arith, g.hash_long)) (ascii "hash") (omega arith) (stands_first H (P ++ (Z ++ M)) t₁) in
    let p = path_back prev e.path g.permitted g.above (stands_first P (Z ++ M) t₂) in
    let z = number_field_back (ascii "size") 0 4294967295 e.size (omega arith) (omega (arith, g.sized)) (omega arith) g.sized (stands_first Z M t₃) in
    let m = mtime_back e.mtime g.dated t₄ in (
      record { hash = h.0; path = p.0; size = e.size; mtime = e.mtime },
      rw (one_back 0xA4 (stands_first (0xA4 ∷ []) (H ++ (P ++ (Z ++ M))) t₀), h.1, p.1, z, m),
      ap₂ (λ (x y : List ℕ). record { hash = x; path = y; size = e.size; mtime = e.mtime }) h.2.part p.2,
    )

pub file_only : {s : List ℕ} {at next : ℕ} (prev : List ℕ) {f : File} → Bytes s → file_at s at prev ≡ got f next → Stands s at (file_of s f) next × Good s prev f
unfolding file_at file_of entry_of entry_in
file_only {s} {at} {next} prev {f} y e =
    let t₁ = then_passed (one_at s at 0xA4) _ e in
    let t₂ = then_passed (string_field_at s t₁.1 (ascii "hash") 2 32 32 19) _ t₁.3 in
    let t₃ = then_passed (path_at s t₂.1 prev) _ t₂.3 in
    let t₄ = then_passed (number_field_at s t₃.1 (ascii "size") 0 4294967295) _ t₃.3 in
    let t₅ = then_passed (mtime_at s t₄.1) _ t₄.3 in
    let v : ◌≡◌ {A = File} (record { hash = t₂.0; path = t₃.0; size = t₄.0; mtime = t₅.0 }) f = got_value t₅.3 in
    let n : t₅.1 ≡ next = got_next t₅.3 in
    let h = string_field_only (ascii "hash") 2 32 32 19 y t₂.2 in
    let w = string_field_within s t₁.1 (ascii "hash") 2 32 32 19 t₂.2 in
    let p = path_only prev y t₃.2 in
    let z = number_field_within s t₃.1 (ascii "size") 0 4294967295 t₄.2 in
    let m = mtime_only y t₅.2 in
    subst (λ (f : File). Stands s at (file_of s f) next × Good s prev f) v (
      stands_join (one_only 0xA4 t₁.2) (stands_join h.0 (stands_join p.0 (stands_join (number_field_only (ascii "size") 0 4294967295 y t₄.2) (stands_as refl n m.0)))),
      record {
        hash_within = omega (arith, w.0, w.1);
        hash_long = omega (arith, w.2, w.3);
        named = p.1;
        sized = z.1;
        dated = m.1;
      },
    )

-- what was read lies within the input and within its range
pub file_within : (s : List ℕ) (at : ℕ) (prev : List ℕ) {f : File} {next : ℕ} → file_at s at prev ≡ got f next
    → (f.hash.start + 32 ≤ length s) × (f.hash.len ≡ 32) × (f.path.start + f.path.len ≤ length s) × (f.size ≤ 4294967295)
unfolding file_at path_at
file_within s at prev {f} {next} e =
    let t₁ = then_passed (one_at s at 0xA4) _ e in
    let t₂ = then_passed (string_field_at s t₁.1 (ascii "hash") 2 32 32 19) _ t₁.3 in
    let t₃ = then_passed (path_at s t₂.1 prev) _ t₂.3 in
    let t₄ = then_passed (number_field_at s t₃.1 (ascii "size") 0 4294967295) _ t₃.3 in
    let t₅ = then_passed (mtime_at s t₄.1) _ t₄.3 in
    let v : ◌≡◌ {A = File} (record { hash = t₂.0; path = t₃.0; size = t₄.0; mtime = t₅.0 }) f = got_value t₅.3 in
    let w = string_field_within s t₁.1 (ascii "hash") 2 32 32 19 t₂.2 in
    let p = path_within s t₂.1 prev t₃.2 in
    let z = number_field_within s t₃.1 (ascii "size") 0 4294967295 t₄.2 in
    subst (λ (f : File). (f.hash.start + 32 ≤ length s) × (f.hash.len ≡ 32) × (f.path.start + f.path.len ≤ length s) × (f.size ≤ 4294967295)) v
    (omega (arith, w.0, w.1, w.2), omega (arith, w.2, w.3), p, z.1)
  where
    path_within : (s : List ℕ) (at : ℕ) (prev : List ℕ) {v : Span} {next : ℕ} → path_at s at prev ≡ got v next → v.start + v.len ≤ length s
    path_within s at prev {v} {next} e =
        let t = then_passed (string_field_at s at (ascii "path") 3 path_least path_most 20) _ e in
        let u = passed (path_allowed (part_at s t.0)) _ 20 t.3 in
        let w = passed (below prev (part_at s t.0)) (got t.0 t.1) 20 u.1 in
        let f : t.0 ≡ v = got_value w.1 in
        let i = string_field_within s at (ascii "path") 3 path_least path_most 20 t.2 in
        subst (λ (v : Span). v.start + v.len ≤ length s) f (omega (arith, i.0, i.1))
