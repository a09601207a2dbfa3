-- How long a manifest is, and which values may be written. Assumes nothing.
use Prim.Native.Nat.{ℕ, ◌+◌, ◌≤◌, ◌<◌}
use mathlib.Core.Path.{◌≡◌, refl, sym, ap, ◌∙◌}
use mathlib.Core.Bool.{Bool, true, false, not, ◌&&◌}
use mathlib.Core.List.{List, [], ◌∷◌, ◌++◌, map}
use native.Mathlib.Omega.{arith}
use borrow.Author.Tests.{leb-true, le-leb, lt-leb}
use lib.Dec.{leb}
use lib.ListN.{length, take, length-append, length-map}
use lib.Seq.{length-take-le}
use Rattle.wire.specs.Answer.{choose, Answer, done, refused_at, refused, then}
use Rattle.wire.specs.Writing.{outcome}
use Rattle.wire.proofs.Cases.{both_hold, said_yes, passed, done_value, then_done}
use Rattle.std.specs.Prelude.{Option, Some, None}
use Rattle.wire.specs.declared.Span.{Span}
use Rattle.wire.specs.Span.{part_at}
use Rattle.cbor.specs.Form.{head_of, head_size, string_of, number_field_of}
use Rattle.wire.specs.Ascii.{ascii}
use Rattle.cbor.proofs.Sizes.{length_head, length_string, length_number_field_one, size_one, size_two, size_most, float_most}
use Rattle.entry.specs.Writing.{entry_in}
use Rattle.entry.proofs.Sizes.{part_length, integer_length}
use Rattle.entry.proofs.Writers.{digest_within, outcome_done, outcome_refused}
use Rattle.manifest.specs.Manifest.{agrees}
use Rattle.manifest.specs.Writing.{Said, seed_in, said_in, secret_of, entries_of, created_of, said_of, manifest_of, seed_allowed, files_verdict, created_allowed, listed, manifest_verdict}
use Rattle.manifest.specs.Private.{seed_size, created_size}
use Rattle.manifest.specs.declared.Created.{Created}
use Rattle.manifest.specs.declared.Created.TheVariants as created
use Rattle.manifest.specs.declared.Manifest.{Manifest}
use Rattle.manifest.proofs.Judging.{AllGood, files_good, good_files, files_most}

-- ---- lengths

pub seed_length : (pool : List ℕ) (v : Option Span) → seed_allowed pool v ≡ true → length (secret_of (seed_in pool v)) ≡ seed_size v
unfolding seed_allowed seed_in secret_of seed_size
seed_length pool None h = refl
seed_length pool (Some span) h =
    let d = digest_within pool span h in
    let l = part_length pool span d.0 ∙ d.1 in
    omega (arith, length_string 2 (part_at pool span), l, size_32 l)
  where
    size_32 : {n : ℕ} → n ≡ 32 → head_size n ≡ 2
    size_32 {n} e = size_two n (omega arith) (omega arith)

pub seed_most : (v : Option Span) → seed_size v ≤ 34
unfolding seed_size
seed_most None = omega arith
seed_most (Some span) = omega arith

pub created_length : (v : Created) → length (created_of v) ≡ created_size v
unfolding created_of created_size
created_length (created.Integer v) = integer_length v.negative v.n
created_length (created.Double bits) = refl

pub created_most : (v : Created) → created_size v ≤ 9
unfolding created_size
created_most (created.Integer v) = size_most v.n
created_most (created.Double bits) = float_most bits

said_length : (v : Said) → length (said_of v) ≡ 37 + length (secret_of v.seed) + head_size (length v.files) + length (entries_of v.files) + length (created_of v.created)
unfolding said_of
said_length v =
    let A : List ℕ = string_of 3 (ascii "seed") ++ secret_of v.seed in
    let K : List ℕ = string_of 3 (ascii "files") in
    let N : List ℕ = head_of 4 (length v.files) in
    let E : List ℕ = entries_of v.files in
    let S : List ℕ = string_of 3 (ascii "sealed") in
    let B : List ℕ = choose v.sealed 0xF5 0xF4 ∷ [] in
    let C : List ℕ = string_of 3 (ascii "created") ++ created_of v.created in
    let L : List ℕ = number_field_of (ascii "version") 1 in
    omega (
      arith,
      length-append A (K ++ (N ++ (E ++ (S ++ (B ++ (C ++ L)))))),
      length-append K (N ++ (E ++ (S ++ (B ++ (C ++ L))))),
      length-append N (E ++ (S ++ (B ++ (C ++ L)))),
      length-append E (S ++ (B ++ (C ++ L))),
      length-append S (B ++ (C ++ L)),
      length-append B (C ++ L),
      length-append C L,
      length-append (string_of 3 (ascii "seed")) (secret_of v.seed),
      length-append (string_of 3 (ascii "created")) (created_of v.created),
      length_string 3 (ascii "seed"),
      length_string 3 (ascii "files"),
      length_string 3 (ascii "sealed"),
      length_string 3 (ascii "created"),
      length_head 4 (length v.files),
      length_number_field_one (ascii "version") 1 (omega arith) (omega arith),
      size_one 4 (omega arith),
      size_one 5 (omega arith),
      size_one 6 (omega arith),
      size_one 7 (omega arith),
    )

-- ---- the values that may be written

pub record Fit (pool : List ℕ) (m : Manifest) : Type 0 where
  pub seeded : seed_allowed pool m.seed ≡ true
  pub some : 1 ≤ m.count
  pub few : m.count ≤ 64
  pub filed : AllGood pool [] (take m.count m.files)
  pub agreed : agrees m.seed m.sealed ≡ true
  pub dated : created_allowed m.created ≡ true
  pub small : length (manifest_of pool (listed m)) ≤ 16384

module _ (pool : List ℕ) (m : Manifest) where
  pub verdict_fit : {bs : List ℕ} → manifest_verdict pool m ≡ done bs → Fit pool m × (bs ≡ manifest_of pool (listed m))
  unfolding manifest_verdict listed
  verdict_fit h =
      let a = passed (seed_allowed pool m.seed) _ 19 h in
      let b = passed (leb 1 m.count && leb m.count 64) _ 19 a.1 in
      let n = both_hold (leb 1 m.count) (leb m.count 64) b.0 in
      let f = then_done (files_verdict pool [] (take m.count m.files)) _ b.1 in
      let d = passed (agrees m.seed m.sealed) _ 19 f.2 in
      let t = passed (created_allowed m.created) _ 19 d.1 in
      let w = passed (leb (length (manifest_of pool (listed m))) 16384) _ 9 t.1 in (
        record {
          seeded = a.0;
          some = leb-true 1 m.count n.0;
          few = leb-true m.count 64 n.1;
          filed = (files_good pool [] (take m.count m.files) f.1).0;
          agreed = d.0;
          dated = t.0;
          small = leb-true (length (manifest_of pool (listed m))) 16384 w.0;
        },
        sym (done_value w.1),
      )

  pub fit_verdict : Fit pool m → manifest_verdict pool m ≡ done (manifest_of pool (listed m))
  unfolding manifest_verdict listed
  fit_verdict f =
      rw (
        f.seeded,
        le-leb 1 m.count f.some,
        le-leb m.count 64 f.few,
        good_files pool [] (take m.count m.files) f.filed,
        f.agreed,
        f.dated,
        le-leb (length (manifest_of pool (listed m))) 16384 f.small,
      )

  -- how long it is, by the length of its files
  pub fit_length : length m.files ≡ 64 → m.count ≤ 64 → seed_allowed pool m.seed ≡ true → {bs : List ℕ} → files_verdict pool [] (take m.count m.files) ≡ done bs
      → length (manifest_of pool (listed m)) ≡ 37 + seed_size m.seed + head_size m.count + length bs + created_size m.created
  unfolding manifest_of said_in listed
  fit_length array few s {bs} h =
      let n : length (map (entry_in pool) (take m.count m.files)) ≡ m.count = length-map (take m.count m.files) (entry_in pool) ∙ length-take-le m.count m.files (omega arith) in
      let e : length bs ≡ length (entries_of (map (entry_in pool) (take m.count m.files))) = ap length (files_good pool [] (take m.count m.files) h).1 in
      omega (
        arith,
        said_length (said_in pool (listed m)),
        ap head_size n,
        seed_length pool m.seed s,
        created_length m.created,
      )

-- ---- `judge::whole`

module _ (v : Answer (List ℕ)) (k : List ℕ → Answer (List ℕ)) where
  -- the files are refused
  pub outcome_stop : (w p : ℕ) → refused_at w p ≡ outcome v → refused_at w p ≡ outcome (then v k)
  outcome_stop w p e = ap (λ (u : Answer (List ℕ)). outcome (then u k)) (sym (outcome_refused v w p e))

  -- they are not
  pub outcome_on : (n : ℕ) (r : Answer ℕ) → done n ≡ outcome v → ((bs : List ℕ) → v ≡ done bs → length bs ≡ n → r ≡ outcome (k bs)) → r ≡ outcome (then v k)
  outcome_on n r e f = let d = outcome_done v n e in f d.0 d.1 d.2 ∙ sym (ap (λ (w : Answer (List ℕ)). outcome (then w k)) d.1)

module _ (pool : List ℕ) (m : Manifest) (array : length m.files ≡ 64) (a : Bool) (sa : a ≡ seed_allowed pool m.seed) (ya : not a ≡ false) (some : 1 ≤ m.count) (few : m.count ≤ 64)
    (len : ℕ) (e : done len ≡ outcome (files_verdict pool [] (take m.count m.files))) where
  pub total_fits : len ≤ 65536
  total_fits =
      let d = outcome_done (files_verdict pool [] (take m.count m.files)) len e in
      omega (arith, d.2, files_most pool [] (take m.count m.files) d.1, length-take-le m.count m.files (omega arith))

  module _ (b : Bool) (sb : b ≡ agrees m.seed m.sealed) (yb : not b ≡ false) (t : Bool) (st : t ≡ created_allowed m.created) (yt : not t ≡ false)
      (n : ℕ) (sum : n ≡ 37 + seed_size m.seed + head_size m.count + len + created_size m.created) where
    pub long_whole : n ≡ length (manifest_of pool (listed m))
    long_whole =
        let d = outcome_done (files_verdict pool [] (take m.count m.files)) len e in
        omega (arith, d.2, fit_length pool m array few (said_yes a _ sa ya) d.1)

    pub judge_large : 16384 < n → refused 9 ≡ outcome (manifest_verdict pool m)
    unfolding manifest_verdict listed
    judge_large l =
        let d = outcome_done (files_verdict pool [] (take m.count m.files)) len e in
        rw (
          said_yes a _ sa ya,
          le-leb 1 m.count some,
          le-leb m.count 64 few,
          d.1,
          said_yes b _ sb yb,
          said_yes t _ st yt,
          lt-leb (length (manifest_of pool (listed m))) 16384 (omega (arith, long_whole)),
        )

    pub judge_whole : n ≤ 16384 → done n ≡ outcome (manifest_verdict pool m)
    judge_whole l =
        let d = outcome_done (files_verdict pool [] (take m.count m.files)) len e in
        let f : Fit pool m =
        record {
          seeded = said_yes a _ sa ya;
          some = some;
          few = few;
          filed = (files_good pool [] (take m.count m.files) d.1).0;
          agreed = said_yes b _ sb yb;
          dated = said_yes t _ st yt;
          small = omega (arith, long_whole);
        } in
        ap done long_whole ∙ ap outcome (sym (fit_verdict pool m f))
