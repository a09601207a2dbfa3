-- Each field: what is written reads back, and what is read was written. Assumes nothing.
use Prim.Native.Nat.{ℕ, zero, suc, ◌+◌, ◌*◌, ◌<◌, ◌≤◌}
use mathlib.Core.Path.{◌≡◌, refl, sym, ap, ap₂, ◌∙◌, subst}
use mathlib.Core.Bool.{Bool, true, false}
use mathlib.Core.List.{List, [], ◌∷◌, ◌++◌, map}
use native.Mathlib.Omega.{arith}
use borrow.Author.Tests.{ltb-true, lt-ltb, leb-true, le-leb, ne_eqb, eqb-true, eqb-false}
use lib.Dec.{leb, eqb}
use lib.ListN.{length}
use Rattle.std.specs.Prelude.{Option, Some, None}
use Rattle.wire.specs.declared.Span.{Span}
use Rattle.wire.specs.Answer.{choose, then, Got, got}
use Rattle.wire.specs.Number.{Bytes, big_endian}
use Rattle.wire.proofs.Cases.{passed, then_passed, got_next, got_value}
use Rattle.wire.proofs.Standing.{Stands, stands_none, stands_first, stands_second, stands_join, stands_as}
use Rattle.wire.specs.Span.{part_at}
use Rattle.cbor.specs.Form.{info_of, width_of, head_of, string_of, float_of}
use Rattle.cbor.specs.Item.{byte_at, number_at, key_at, string_at, is_float, float_at, any_field_at}
use Rattle.wire.specs.Ascii.{ascii}
use Rattle.cbor.proofs.Shortest.{not_float}
use Rattle.cbor.proofs.Sizes.{info_most, either}
use Rattle.cbor.proofs.Within.{number_within, string_within}
use Rattle.cbor.proofs.Written.{kind_bytes, kind_array, byte_back, float_back, float_begins, key_back, number_back, string_back, any_field_back}
use Rattle.cbor.proofs.Only.{float_only, key_only, number_only, string_only, any_field_only}
use Rattle.entry.specs.File.{integer_by, integer_at, file_at}
use Rattle.entry.specs.Writing.{Entry, entry_in, entry_of, integer_of, file_of}
use Rattle.entry.specs.declared.File.{File}
use Rattle.entry.proofs.Writers.{within_digest}
use Rattle.entry.proofs.Rounds.{sign_major, integer_back, integer_first, integer_only, Sound, good_sound, file_back, file_only}
use Rattle.manifest.specs.Manifest.{seed_at, files_at, list_at, agrees, sealed_at, created_at}
use Rattle.manifest.specs.Writing.{Secret, none, some, seed_in, secret_of, entries_of, created_of, seed_allowed, created_allowed, CreatedFits}
use Rattle.manifest.specs.declared.Created.{Created}
use Rattle.manifest.specs.declared.Created.TheVariants as created
use Rattle.manifest.proofs.Judging.{AllGood}

-- ---- the seed

-- 32 bytes, where there are any
abbrev pub SecretLong : Secret → Type 0
SecretLong none = Unit
SecretLong (some bs) = length bs ≡ 32

-- the first byte of a byte string is not that of null
string_first : {s : List ℕ} {at next : ℕ} (bs : List ℕ) → Stands s at (string_of 2 bs) next → (x : ℕ) × (byte_at s at ≡ got x (at + 1)) × (x < 0xF6)
unfolding string_of head_of
string_first bs v = (
  2 * 32 + info_of (length bs),
  byte_back (2 * 32 + info_of (length bs)) (stands_first ((2 * 32 + info_of (length bs)) ∷ []) (big_endian (width_of (info_of (length bs))) (length bs) ++ bs) v),
  omega (arith, info_most (length bs)),
)

pub seed_back : {s : List ℕ} {at next : ℕ} (v : Secret) → SecretLong v → Stands s at (string_of 3 (ascii "seed") ++ secret_of v) next → (w : Option Span) × (seed_at s at ≡ got w next) × (seed_in s w ≡ v)
unfolding seed_at secret_of seed_in
seed_back none l h =
    let k = stands_first (string_of 3 (ascii "seed")) (0xF6 ∷ []) h in
    let v = stands_second (string_of 3 (ascii "seed")) (0xF6 ∷ []) h in
    (None, rw (any_field_back (ascii "seed") (omega arith) k (byte_back 0xF6 v)) (ap (got None) (sym v.ends)), refl)
seed_back {s} {at} {next} (some bs) l h =
    let k = stands_first (string_of 3 (ascii "seed")) (string_of 2 bs) h in
    let v = stands_second (string_of 3 (ascii "seed")) (string_of 2 bs) h in
    let r = string_back 2 32 32 19 kind_bytes bs (omega arith) (omega arith) (omega arith) v in
    let b = string_first bs v in (
      Some r.0,
      rw (any_field_back (ascii "seed") (omega arith) k b.1, ne_eqb b.0 0xF6 (omega (arith, b.2)), r.1),
      ap some r.2.part,
    )

pub seed_only : {s : List ℕ} {at next : ℕ} {v : Option Span} → Bytes s → seed_at s at ≡ got v next → Stands s at (string_of 3 (ascii "seed") ++ secret_of (seed_in s v)) next × (seed_allowed s v ≡ true)
unfolding seed_at secret_of seed_in seed_allowed
seed_only {s} {at} {next} {v} y e =
    let k = then_passed (any_field_at s at (ascii "seed")) _ e in
    let o = any_field_only (ascii "seed") k.2 in
    let r = value k.1 k.0 o.1 k.3 in
    (stands_join o.0 r.0, r.1)
  where
    value : (a x : ℕ) → Stands s a (x ∷ []) (a + 1)
        → choose (eqb x 0xF6) (got None (a + 1)) (then (string_at s a 2 32 32 19) (λ (v, next). got (Some v) next)) ≡ got v next
        → Stands s a (secret_of (seed_in s v)) next × (seed_allowed s v ≡ true)
    value a x b = either (λ (g : Got (Option Span)). g ≡ got v next → Stands s a (secret_of (seed_in s v)) next × (seed_allowed s v ≡ true)) (eqb x 0xF6) null whole
      where
        null : eqb x 0xF6 ≡ true → got None (a + 1) ≡ got v next → Stands s a (secret_of (seed_in s v)) next × (seed_allowed s v ≡ true)
        null q g =
            subst (λ (v : Option Span). Stands s a (secret_of (seed_in s v)) next × (seed_allowed s v ≡ true)) (got_value g)
            (stands_as (ap (λ (z : ℕ). z ∷ []) (eqb-true x 0xF6 q)) (got_next g) b, refl)

        whole : eqb x 0xF6 ≡ false → then (string_at s a 2 32 32 19) (λ (v, next). got (Some v) next) ≡ got v next
            → Stands s a (secret_of (seed_in s v)) next × (seed_allowed s v ≡ true)
        whole q g =
            let i = then_passed (string_at s a 2 32 32 19) (λ (v, next). got (Some v) next) g in
            let f : Some i.0 ≡ v = got_value i.3 in
            let n : i.1 ≡ next = got_next i.3 in
            let w = string_within s a 2 32 32 19 i.2 in
            subst (λ (v : Option Span). Stands s a (secret_of (seed_in s v)) next × (seed_allowed s v ≡ true)) f (
              stands_as refl n (string_only 2 32 32 19 y i.2).0,
              within_digest s i.0 (omega (arith, w.0, w.1)) (omega (arith, w.2, w.3)),
            )

-- ---- the files

-- each is sound after the one before it
abbrev pub AllSound : List ℕ → List Entry → Type 0
AllSound prev [] = Unit
AllSound prev (e ∷ es) = Sound prev e × AllSound e.path es

pub all_sound : (pool prev : List ℕ) (fs : List File) → AllGood pool prev fs → AllSound prev (map (entry_in pool) fs)
unfolding entry_in
all_sound pool prev [] g = tt
all_sound pool prev (f ∷ fs) g = (good_sound pool prev f g.0, all_sound pool (part_at pool f.path) fs g.1)

pub files_back : {s : List ℕ} {at next : ℕ} (prev : List ℕ) (es : List Entry) → AllSound prev es → Stands s at (entries_of es) next
    → (fs : List File) × (files_at s (length es) at prev ≡ got fs next) × (map (entry_in s) fs ≡ es)
unfolding files_at entries_of entry_in
files_back {s} {at} {next} prev [] g h = ([], ap (got []) (omega (arith, h.ends)), refl)
files_back {s} {at} {next} prev (e ∷ es) g h =
    let a = file_back prev e g.0 (stands_first (entry_of e) (entries_of es) h) in
    let r = files_back {at = at + length (entry_of e)} e.path es g.1 (stands_second (entry_of e) (entries_of es) h) in
    let p : part_at s a.0.path ≡ e.path = ap (λ (x : Entry). x.path) a.2 in
    (a.0 ∷ r.0, rw (a.1, p, r.1), ap₂ (λ (x : Entry) (xs : List Entry). x ∷ xs) a.2 r.2)

pub files_only : {s : List ℕ} {next : ℕ} (at : ℕ) (prev : List ℕ) (k : ℕ) {fs : List File} → Bytes s → at ≤ length s → files_at s k at prev ≡ got fs next
    → Stands s at (entries_of (map (entry_in s) fs)) next × AllGood s prev fs × (length fs ≡ k)
unfolding files_at entries_of file_of
files_only {s} {next} at prev zero {fs} y l e =
    subst (λ (fs : List File). Stands s at (entries_of (map (entry_in s) fs)) next × AllGood s prev fs × (length fs ≡ 0)) (got_value e)
    (stands_as refl (got_next e) (stands_none at l), tt, refl)
files_only {s} {next} at prev (suc k) {fs} y l e =
    let a = then_passed (file_at s at prev) _ e in
    let b = then_passed (files_at s k a.1 (part_at s a.0.path)) _ a.3 in
    let f : a.0 ∷ b.0 ≡ fs = got_value b.3 in
    let n : b.1 ≡ next = got_next b.3 in
    let p = file_only prev y a.2 in
    let r = files_only {next = b.1} a.1 (part_at s a.0.path) k y p.0.within b.2 in
    subst (λ (fs : List File). Stands s at (entries_of (map (entry_in s) fs)) next × AllGood s prev fs × (length fs ≡ suc k)) f
    (stands_join p.0 (stands_as refl n r.0), (p.1, r.1), ap suc r.2)

-- the key, the head and the files
pub list_back : {s : List ℕ} {at a b next : ℕ} (es : List Entry) → AllSound [] es → 1 ≤ length es → length es ≤ 64 → Stands s at (string_of 3 (ascii "files")) a → Stands s a (head_of 4 (length es)) b
    → Stands s b (entries_of es) next → (fs : List File) × (list_at s at ≡ got fs next) × (map (entry_in s) fs ≡ es)
unfolding list_at
list_back es g l m h₁ h₂ h₃ =
    let r = files_back [] es g h₃ in
    (r.0, rw (key_back (ascii "files") (omega arith) h₁, number_back 4 1 64 19 kind_array (length es) (omega arith) l m h₂) r.1, r.2)

pub record Listed (s : List ℕ) (at : ℕ) (fs : List File) (next : ℕ) : Type 0 where
  pub after_key : ℕ
  pub after_head : ℕ
  pub key_stands : Stands s at (string_of 3 (ascii "files")) after_key
  pub head_stands : Stands s after_key (head_of 4 (length fs)) after_head
  pub files_stand : Stands s after_head (entries_of (map (entry_in s) fs)) next
  pub good : AllGood s [] fs
  pub some : 1 ≤ length fs
  pub few : length fs ≤ 64

pub list_only : {s : List ℕ} {at next : ℕ} {fs : List File} → Bytes s → list_at s at ≡ got fs next → Listed s at fs next
unfolding list_at
list_only {s} {at} {next} {fs} y e =
    let k = then_passed (key_at s at (ascii "files")) _ e in
    let n = then_passed (number_at s k.1 4 1 64 19) _ k.3 in
    let w = number_within s k.1 4 1 64 19 n.2 in
    let h = number_only 4 1 64 19 y n.2 in
    let r = files_only n.1 [] n.0 y h.0.within n.3 in
    record {
      after_key = k.1;
      after_head = n.1;
      key_stands = (key_only (ascii "files") k.2).0;
      head_stands = stands_as (ap (head_of 4) (sym r.2)) refl h.0;
      files_stand = r.0;
      good = r.1;
      some = omega (arith, w.0, r.2);
      few = omega (arith, w.1, r.2);
    }

-- ---- sealed

sealed_byte : (b : Bool) → eqb (choose b 0xF5 0xF4) 0xF5 ≡ b
sealed_byte true = refl
sealed_byte false = refl

sealed_range : (b : Bool) → (0xF4 ≤ choose b 0xF5 0xF4) × (choose b 0xF5 0xF4 ≤ 0xF5)
sealed_range true = (omega arith, omega arith)
sealed_range false = (omega arith, omega arith)

pub sealed_back : {s : List ℕ} {at a next : ℕ} (v : Option Span) (b : Bool) → agrees v b ≡ true → Stands s at (string_of 3 (ascii "sealed")) a → Stands s a (choose b 0xF5 0xF4 ∷ []) next
    → sealed_at s at v ≡ got b next
unfolding sealed_at
sealed_back {s} {at} {a} {next} v b g h₁ h₂ =
    let x : ℕ = choose b 0xF5 0xF4 in
    let r = sealed_range b in
    rw (any_field_back (ascii "sealed") (omega arith) h₁ (byte_back (choose b 0xF5 0xF4) h₂))
    (rw (le-leb 0xF4 (choose b 0xF5 0xF4) r.0, le-leb (choose b 0xF5 0xF4) 0xF5 r.1, sealed_byte b, g) (ap (got b) (sym h₂.ends)))

pub record Flagged (s : List ℕ) (at : ℕ) (v : Option Span) (b : Bool) (next : ℕ) : Type 0 where
  pub after_key : ℕ
  pub key_stands : Stands s at (string_of 3 (ascii "sealed")) after_key
  pub byte_stands : Stands s after_key (choose b 0xF5 0xF4 ∷ []) next
  pub agreed : agrees v b ≡ true

-- F4 and F5 are the two bytes in the range
flag_of : (x : ℕ) → 0xF4 ≤ x → x ≤ 0xF5 → x ≡ choose (eqb x 0xF5) 0xF5 0xF4
flag_of x l m = either (λ (k : ℕ). x ≡ k) (eqb x 0xF5) (λ t. eqb-true x 0xF5 t) (λ t. let n = eqb-false x 0xF5 t in omega arith)

pub sealed_only : {s : List ℕ} {at next : ℕ} {v : Option Span} {b : Bool} → sealed_at s at v ≡ got b next → Flagged s at v b next
unfolding sealed_at
sealed_only {s} {at} {next} {v} {b} e =
    let c = then_passed (any_field_at s at (ascii "sealed")) _ e in
    let o = any_field_only (ascii "sealed") c.2 in
    let p = passed (leb 0xF4 c.0) _ 18 c.3 in
    let q = passed (leb c.0 0xF5) _ 18 p.1 in
    let r = passed (agrees v (eqb c.0 0xF5)) (got (eqb c.0 0xF5) (c.1 + 1)) 19 q.1 in
    let f : eqb c.0 0xF5 ≡ b = got_value r.1 in
    let n : c.1 + 1 ≡ next = got_next r.1 in
    let x = flag_of c.0 (leb-true 0xF4 c.0 p.0) (leb-true c.0 0xF5 q.0) in
    record {
      after_key = c.1;
      key_stands = o.0;
      byte_stands = stands_as (ap (λ (z : ℕ). z ∷ []) (x ∙ ap (λ (t : Bool). choose t 0xF5 0xF4) f)) n o.1;
      agreed = ap (agrees v) (sym f) ∙ r.0;
    }

-- ---- created

pub created_back : {s : List ℕ} {at next : ℕ} (v : Created) → CreatedFits v → created_allowed v ≡ true → Stands s at (string_of 3 (ascii "created") ++ created_of v) next → created_at s at ≡ got v next
unfolding created_at created_of created_allowed
created_back (created.Integer i) t a h =
    let k = stands_first (string_of 3 (ascii "created")) (integer_of i.negative i.n) h in
    let v = stands_second (string_of 3 (ascii "created")) (integer_of i.negative i.n) h in
    let l = ltb-true i.n 9223372036854775808 a in
    let b = integer_first i.negative i.n l v in
    rw (any_field_back (ascii "created") (omega arith) k b.1, not_float b.0 (omega (arith, b.2)), integer_back i.negative i.n l v, sign_major i.negative)
created_back {s} {at} {next} (created.Double bits) t a h =
    let k = stands_first (string_of 3 (ascii "created")) (float_of bits) h in
    let v = stands_second (string_of 3 (ascii "created")) (float_of bits) h in
    let b = float_begins bits v in
    rw (any_field_back (ascii "created") (omega arith) k b.1, b.2, float_back bits t a v)

pub created_only : {s : List ℕ} {at next : ℕ} {v : Created} → Bytes s → created_at s at ≡ got v next
    → Stands s at (string_of 3 (ascii "created") ++ created_of v) next × (created_allowed v ≡ true) × CreatedFits v
unfolding created_at created_of created_allowed
created_only {s} {at} {next} {v} y e =
    let k = then_passed (any_field_at s at (ascii "created")) _ e in
    let r = value k.1 k.0 k.3 in
    (stands_join (any_field_only (ascii "created") k.2).0 r.0, r.1, r.2)
  where
    value : (a x : ℕ) → choose (is_float x) (then (float_at s a) (λ (bits, next). got (created.Double bits) next)) (then (integer_at s a) (λ (h, next). got (created.Integer (integer_by h)) next)) ≡ got v next
        → Stands s a (created_of v) next × (created_allowed v ≡ true) × CreatedFits v
    value a x = either (λ (g : Got Created). g ≡ got v next → Stands s a (created_of v) next × (created_allowed v ≡ true) × CreatedFits v) (is_float x) double whole
      where
        double : is_float x ≡ true → then (float_at s a) (λ (bits, next). got (created.Double bits) next) ≡ got v next
            → Stands s a (created_of v) next × (created_allowed v ≡ true) × CreatedFits v
        double q g =
            let i = then_passed (float_at s a) (λ (bits, next). got (created.Double bits) next) g in
            let f : created.Double i.0 ≡ v = got_value i.3 in
            let n : i.1 ≡ next = got_next i.3 in
            let r = float_only y i.2 in
            subst (λ (v : Created). Stands s a (created_of v) next × (created_allowed v ≡ true) × CreatedFits v) f (stands_as refl n r.0, r.2, r.1)

        whole : is_float x ≡ false → then (integer_at s a) (λ (h, next). got (created.Integer (integer_by h)) next) ≡ got v next
            → Stands s a (created_of v) next × (created_allowed v ≡ true) × CreatedFits v
        whole q g =
            let i = then_passed (integer_at s a) (λ (h, next). got (created.Integer (integer_by h)) next) g in
            let f : created.Integer (integer_by i.0) ≡ v = got_value i.3 in
            let n : i.1 ≡ next = got_next i.3 in
            let r = integer_only y i.2 in
            subst (λ (v : Created). Stands s a (created_of v) next × (created_allowed v ≡ true) × CreatedFits v) f
            (stands_as refl n r.0, lt-ltb i.0.n 9223372036854775808 r.1, tt)
