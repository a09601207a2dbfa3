-- The manifest: what is written reads back, and what is read was written, one form for each.
-- Assumes nothing.
use Prim.Native.Nat.{ℕ, zero, suc, ◌+◌, ◌<◌, ◌≤◌}
use mathlib.Core.Path.{◌≡◌, refl, sym, ap, ap₂, ◌∙◌, subst}
use mathlib.Core.Bool.{Bool, true}
use mathlib.Core.List.{List, [], ◌∷◌, ◌++◌, map}
use native.Mathlib.Omega.{arith}
use borrow.Author.Tests.{le-leb, leb-true, eq-eqb, eqb-true}
use lib.Dec.{leb, eqb}
use lib.ListN.{length, take, length-map}
use lib.Seq.{take_at, length-take-le}
use Rattle.std.specs.Prelude.{Option, Some, None}
use Rattle.wire.specs.declared.Span.{Span}
use Rattle.wire.specs.Answer.{then, choose, done, Got, got}
use Rattle.wire.specs.Number.{Bytes}
use Rattle.wire.proofs.Cases.{passed, then_passed, got_value, got_next, got_as}
use Rattle.wire.proofs.Standing.{Stands, stands_whole, stands_all, stands_first, stands_second, stands_join, stands_as}
use Rattle.wire.specs.Span.{part_at}
use Rattle.cbor.specs.Form.{head_of, string_of, number_field_of}
use Rattle.cbor.specs.Item.{one_at, number_at, key_at, number_field_at}
use Rattle.wire.specs.Ascii.{ascii}
use Rattle.cbor.proofs.Within.{number_within, number_field_within}
use Rattle.cbor.proofs.Written.{one_back, number_field_back}
use Rattle.cbor.proofs.Only.{one_only, number_field_only}
use Rattle.entry.specs.File.{file_at}
use Rattle.entry.specs.Writing.{Entry, entry_in}
use Rattle.entry.specs.declared.File.{File}
use Rattle.entry.proofs.Sizes.{part_length}
use Rattle.entry.proofs.Writers.{digest_within}
use Rattle.entry.proofs.Rounds.{file_within}
use Rattle.manifest.specs.Manifest.{Listing, seed_at, files_at, list_at, agrees, sealed_at, created_at, end_at, manifest_at}
use Rattle.manifest.specs.Writing.{Secret, Said, seed_in, said_in, secret_of, entries_of, created_of, said_of, manifest_of, seed_allowed, created_allowed, listed, manifest_verdict, CreatedFits, Typed}
use Rattle.manifest.specs.Answer.{padded, answer_for}
use Rattle.manifest.specs.declared.Ending.{Ending}
use Rattle.manifest.specs.declared.Manifest.{Manifest}
use Rattle.manifest.proofs.Judging.{AllGood}
use Rattle.manifest.proofs.Lengths.{Fit, verdict_fit, fit_verdict}
use Rattle.manifest.proofs.Parts.{SecretLong, seed_back, seed_only, AllSound, all_sound, list_back, Listed, list_only, sealed_back, sealed_only, created_back, created_only}

-- ---- an accepted payload and its parts

-- it has at most 16,384 bytes
pub manifest_small : (s : List ℕ) {v : Listing} {next : ℕ} → manifest_at s ≡ got v next → length s ≤ 16384
unfolding manifest_at
manifest_small s e = leb-true (length s) 16384 (passed (leb (length s) 16384) _ 9 e).0

-- a file's hash is in the input, and its size fits four bytes
pub record Inside (s : List ℕ) (f : File) : Type 0 where
  pub hash_within : f.hash.start + 32 ≤ length s
  pub hash_long : f.hash.len ≡ 32
  pub path_within : f.path.start + f.path.len ≤ length s
  pub sized : f.size < 4294967296

abbrev pub AllInside : List ℕ → List File → Type 0
AllInside s [] = Unit
AllInside s (f ∷ fs) = Inside s f × AllInside s fs

files_inside : (s : List ℕ) (k at : ℕ) (prev : List ℕ) {fs : List File} {next : ℕ} → files_at s k at prev ≡ got fs next → AllInside s fs × (length fs ≡ k)
unfolding files_at
files_inside s zero at prev {fs} e =
    subst (λ (fs : List File). AllInside s fs × (length fs ≡ 0)) (got_value e) (tt, refl)
files_inside s (suc k) at prev {fs} e =
    let a = then_passed (file_at s at prev) _ e in
    let b = then_passed (files_at s k a.1 (part_at s a.0.path)) _ a.3 in
    let f : a.0 ∷ b.0 ≡ fs = got_value b.3 in
    let w = file_within s at prev a.2 in
    let r = files_inside s k a.1 (part_at s a.0.path) b.2 in
    subst (λ (fs : List File). AllInside s fs × (length fs ≡ suc k)) f
    ((record { hash_within = w.0; hash_long = w.1; path_within = w.2; sized = omega (arith, w.3) }, r.0), ap suc r.1)

-- the steps that an accepted payload passed
pub record Ended (s : List ℕ) (at : ℕ) (key : Option Span) (v : Ending) (next : ℕ) : Type 0 where
  pub after_sealed : ℕ
  pub after_created : ℕ
  pub version : ℕ
  pub sealed_read : sealed_at s at key ≡ got v.sealed after_sealed
  pub created_read : created_at s after_sealed ≡ got v.created after_created
  pub version_read : number_field_at s after_created (ascii "version") 1 1 ≡ got version next
  pub ends : next ≡ length s

end_steps : (s : List ℕ) (at : ℕ) (key : Option Span) {v : Ending} {next : ℕ} → end_at s at key ≡ got v next → Ended s at key v next
unfolding end_at
end_steps s at key {v} {next} e =
    let t₁ = then_passed (sealed_at s at key) _ e in
    let t₂ = then_passed (created_at s t₁.1) _ t₁.3 in
    let t₃ = then_passed (number_field_at s t₂.1 (ascii "version") 1 1) _ t₂.3 in
    let u = passed (eqb t₃.1 (length s)) (got (record { sealed = t₁.0; created = t₂.0 }) t₃.1) 3 t₃.3 in
    subst (λ (v : Ending). Ended s at key v next) (got_value u.1)
    (subst (λ (k : ℕ). Ended s at key (record { sealed = t₁.0; created = t₂.0 }) k) (got_next u.1)
    (record {
      after_sealed = t₁.1;
      after_created = t₂.1;
      version = t₃.0;
      sealed_read = t₁.2;
      created_read = t₂.2;
      version_read = t₃.2;
      ends = eqb-true t₃.1 (length s) u.0;
    }))

pub record Steps (s : List ℕ) (v : Listing) (next : ℕ) : Type 0 where
  pub small : length s ≤ 16384
  pub after_head : ℕ
  pub after_seed : ℕ
  pub after_files : ℕ
  pub head_read : one_at s 0 0xA5 ≡ got tt after_head
  pub seed_read : seed_at s after_head ≡ got v.seed after_seed
  pub files_read : list_at s after_seed ≡ got v.files after_files
  pub ended : Ended s after_files v.seed (record { sealed = v.sealed; created = v.created }) next

pub manifest_steps : (s : List ℕ) {v : Listing} {next : ℕ} → manifest_at s ≡ got v next → Steps s v next
unfolding manifest_at
manifest_steps s {v} {next} e =
    let t₀ = passed (leb (length s) 16384) _ 9 e in
    let t₁ = then_passed (one_at s 0 0xA5) _ t₀.1 in
    let t₂ = then_passed (seed_at s t₁.1) _ t₁.3 in
    let t₃ = then_passed (list_at s t₂.1) _ t₂.3 in
    let t₄ = then_passed (end_at s t₃.1 t₂.0) _ t₃.3 in
    subst (λ (v : Listing). Steps s v next) (got_value t₄.3)
    (record {
      small = leb-true (length s) 16384 t₀.0;
      after_head = t₁.1;
      after_seed = t₂.1;
      after_files = t₃.1;
      head_read = t₁.2;
      seed_read = t₂.2;
      files_read = t₃.2;
      ended = end_steps s t₃.1 t₂.0 (got_as t₄.2 refl (got_next t₄.3));
    })

-- the list has 1 to 64 files, each with its hash in the input
pub manifest_within : (s : List ℕ) {v : Listing} {next : ℕ} → manifest_at s ≡ got v next → (1 ≤ length v.files) × (length v.files ≤ 64) × AllInside s v.files
unfolding list_at
manifest_within s {v} e =
    let t = manifest_steps s e in
    let k = then_passed (key_at s t.after_seed (ascii "files")) _ t.files_read in
    let n = then_passed (number_at s k.1 4 1 64 19) _ k.3 in
    let w = number_within s k.1 4 1 64 19 n.2 in
    let r = files_inside s n.0 n.1 [] n.3 in
    (omega (arith, w.0, r.1), omega (arith, w.1, r.1), r.0)

-- ---- what is written reads back

secret_long : (pool : List ℕ) (v : Option Span) → seed_allowed pool v ≡ true → SecretLong (seed_in pool v)
unfolding seed_allowed seed_in
secret_long pool None h = tt
secret_long pool (Some span) h =
    let d = digest_within pool span h in
    part_length pool span d.0 ∙ d.1

-- sealed agrees with what the seed says, wherever its place is
agrees_said : (pool s : List ℕ) (v w : Option Span) (b : Bool) → seed_in s w ≡ seed_in pool v → agrees v b ≡ agrees w b
unfolding seed_in agrees
agrees_said pool s None None b e = refl
agrees_said pool s None (Some i) b e = let z : ◌≡◌ {A = ℕ} 0 1 = cc in absurd (omega arith)
agrees_said pool s (Some i) None b e = let z : ◌≡◌ {A = ℕ} 0 1 = cc in absurd (omega arith)
agrees_said pool s (Some i) (Some j) b e = refl

-- a payload that stands in s, by what it says
said_back : (s : List ℕ) (v : Said) (w : (x : Option Span) → seed_in s x ≡ v.seed → agrees x v.sealed ≡ true) → SecretLong v.seed → AllSound [] v.files → 1 ≤ length v.files → length v.files ≤ 64
    → created_allowed v.created ≡ true → CreatedFits v.created → length s ≤ 16384 → Stands s 0 (said_of v) (length s)
    → (r : Listing) × (manifest_at s ≡ got r (length s)) × (said_in s r ≡ v)
unfolding manifest_at end_at said_of said_in
said_back s v w sl fs a b ca cf l t₀ =
    let S : List ℕ = string_of 3 (ascii "seed") ++ secret_of v.seed in
    let K : List ℕ = string_of 3 (ascii "files") in
    let N : List ℕ = head_of 4 (length v.files) in
    let E : List ℕ = entries_of v.files in
    let Q : List ℕ = string_of 3 (ascii "sealed") in
    let B : List ℕ = choose v.sealed 0xF5 0xF4 ∷ [] in
    let C : List ℕ = string_of 3 (ascii "created") ++ created_of v.created in
    let L : List ℕ = number_field_of (ascii "version") 1 in
    let t₁ = stands_second (0xA5 ∷ []) (S ++ (K ++ (N ++ (E ++ (Q ++ (B ++ (C ++ L))))))) t₀ in
    let t₂ = stands_second S (K ++ (N ++ (E ++ (Q ++ (B ++ (C ++ L)))))) t₁ in
    let t₃ = stands_second K (N ++ (E ++ (Q ++ (B ++ (C ++ L))))) t₂ in
    let t₄ = stands_second N (E ++ (Q ++ (B ++ (C ++ L)))) t₃ in
    let t₅ = stands_second E (Q ++ (B ++ (C ++ L))) t₄ in
    let t₆ = stands_second Q (B ++ (C ++ L)) t₅ in
    let t₇ = stands_second B (C ++ L) t₆ in
    let r₁ = seed_back v.seed sl (stands_first S (K ++ (N ++ (E ++ (Q ++ (B ++ (C ++ L)))))) t₁) in
    let r₂ = list_back v.files fs a b (stands_first K (N ++ (E ++ (Q ++ (B ++ (C ++ L))))) t₂) (stands_first N (E ++ (Q ++ (B ++ (C ++ L)))) t₃) (stands_first E (Q ++ (B ++ (C ++ L))) t₄) in
    let r₃ = sealed_back r₁.0 v.sealed (w r₁.0 r₁.2) (stands_first Q (B ++ (C ++ L)) t₅) (stands_first B (C ++ L) t₆) in
    let r₄ = created_back v.created cf ca (stands_first C L t₇) in
    let r₅ = number_field_back (ascii "version") 1 1 1 (omega arith) (omega arith) (omega arith) (omega arith) (stands_second C L t₇) in (
      record { seed = r₁.0; files = r₂.0; sealed = v.sealed; created = v.created },
      rw (
        le-leb (length s) 16384 l,
        one_back 0xA5 (stands_first (0xA5 ∷ []) (S ++ (K ++ (N ++ (E ++ (Q ++ (B ++ (C ++ L))))))) t₀),
        r₁.1,
        r₂.1,
        r₃,
        r₄,
        r₅,
        eq-eqb (length s) (length s) refl,
      ),
      ap₂ (λ (x : Secret) (es : List Entry). record { seed = x; files = es; sealed = v.sealed; created = v.created }) r₁.2 r₂.2,
    )

-- every value that the writer accepts, written, reads back as what it says
pub manifest_back : (pool : List ℕ) (m : Manifest) {bs : List ℕ} → Typed m → manifest_verdict pool m ≡ done bs
    → (v : Listing) × (manifest_at bs ≡ got v (length bs)) × (said_in bs v ≡ said_in pool (listed m))
unfolding said_in listed manifest_of
manifest_back pool m {bs} y h =
    let f = verdict_fit pool m h in
    let g = f.0 in
    let fs : List File = take m.count m.files in
    let n : length (map (entry_in pool) (take m.count m.files)) ≡ m.count = length-map (take m.count m.files) (entry_in pool) ∙ length-take-le m.count m.files (omega (arith, y.array, g.few)) in
    subst (λ (bs : List ℕ). (v : Listing) × (manifest_at bs ≡ got v (length bs)) × (said_in bs v ≡ said_in pool (listed m))) (sym f.1)
    (said_back (manifest_of pool (listed m)) (said_in pool (listed m))
    (λ (x : Option Span) (e : seed_in (manifest_of pool (listed m)) x ≡ seed_in pool m.seed). sym (agrees_said pool (manifest_of pool (listed m)) m.seed x m.sealed e) ∙ g.agreed)
    (secret_long pool m.seed g.seeded)
    (all_sound pool [] (take m.count m.files) g.filed)
    (omega (arith, n, g.some))
    (omega (arith, n, g.few))
    g.dated
    y.bits
    g.small
    (stands_whole (manifest_of pool (listed m))))

-- ---- what is read was written

-- the struct of a value that was read lists it
pub listed_value : (v : Listing) → listed (record { seed = v.seed; files = padded v.files; count = length v.files; sealed = v.sealed; created = v.created }) ≡ v
unfolding listed padded
listed_value v =
    ap (λ (fs : List File). record { seed = v.seed; files = fs; sealed = v.sealed; created = v.created })
    (take_at v.files _ (length v.files) refl)

-- a payload of bytes that is read is the written form, with itself as the pool, of the value read;
-- and the writer accepts that value: what is read and then written is as it was
pub manifest_only : {s : List ℕ} {v : Listing} {next : ℕ} → Bytes s → manifest_at s ≡ got v next
    → (s ≡ manifest_of s v) × (next ≡ length s) × (then (answer_for (manifest_at s)) (λ (m, p). manifest_verdict s m) ≡ done s)
unfolding manifest_of said_of said_in listed
manifest_only {s} {v} {next} y e =
    let t = manifest_steps s e in
    let z = t.ended in
    let a = seed_only y t.seed_read in
    let b = list_only y t.files_read in
    let c = sealed_only z.sealed_read in
    let d = created_only y z.created_read in
    let w = number_field_within s z.after_created (ascii "version") 1 1 z.version_read in
    let k : z.version ≡ 1 = omega (arith, w.0, w.1) in
    let l : Stands s z.after_created (number_field_of (ascii "version") 1) (length s) = stands_as (ap (number_field_of (ascii "version")) k) z.ends (number_field_only (ascii "version") 1 1 y z.version_read) in
    let m : length (map (entry_in s) v.files) ≡ length v.files = length-map v.files (entry_in s) in
    let whole : s ≡ manifest_of s v =
    stands_all
    (stands_join (one_only 0xA5 t.head_read)
    (stands_join a.0
    (stands_join b.key_stands
    (stands_join (stands_as (ap (head_of 4) (sym m)) refl b.head_stands)
    (stands_join b.files_stand (stands_join c.key_stands (stands_join c.byte_stands (stands_join d.0 l)))))))) in
    (whole, z.ends, verdict whole a.1 b c.agreed d.1 t.small)
  where
    verdict : s ≡ manifest_of s v → seed_allowed s v.seed ≡ true → {at q : ℕ} → Listed s at v.files q → agrees v.seed v.sealed ≡ true → created_allowed v.created ≡ true → length s ≤ 16384
        → then (answer_for (manifest_at s)) (λ (m, p). manifest_verdict s m) ≡ done s
    verdict whole a b c d small =
        let m : Manifest = record { seed = v.seed; files = padded v.files; count = length v.files; sealed = v.sealed; created = v.created } in
        let i = listed_value v in
        let f : Fit s (record { seed = v.seed; files = padded v.files; count = length v.files; sealed = v.sealed; created = v.created }) =
        record {
          seeded = a;
          some = b.some;
          few = b.few;
          filed = subst (λ (x : Listing). AllGood s [] x.files) (sym i) b.good;
          agreed = c;
          dated = d;
          small = omega (arith, ap length whole, ap (λ (x : Listing). length (manifest_of s x)) i);
        } in
        ap (λ (g : Got Listing). then (answer_for g) (λ (m, p). manifest_verdict s m)) e
        ∙ fit_verdict s (record { seed = v.seed; files = padded v.files; count = length v.files; sealed = v.sealed; created = v.created }) f
        ∙ ap done (ap (manifest_of s) i ∙ sym whole)

-- For the reader: two payloads of bytes that say the same are one
pub manifest_once : {s t : List ℕ} {v w : Listing} {i j : ℕ} → Bytes s → Bytes t → manifest_at s ≡ got v i → manifest_at t ≡ got w j → said_in s v ≡ said_in t w → s ≡ t
unfolding manifest_of
manifest_once {s} {t} x y d e h = (manifest_only x d).0 ∙ ap said_of h ∙ sym (manifest_only y e).0
