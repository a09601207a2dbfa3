-- How the judge's steps give its answer: the manifest as it was read, the sum, the digests.
-- Assumes nothing.
use Prim.Native.Nat.{ℕ, ◌-◌, ◌≤◌}
use mathlib.Core.Path.{◌≡◌, refl, sym, ap, ap₂, ◌∙◌}
use mathlib.Core.Bool.{Bool, true, false}
use mathlib.Core.List.{List}
use native.Mathlib.Omega.{arith}
use lib.Dec.{eqb}
use lib.ListN.{length, take, length-append, replicate}
use lib.Seq.{take_at}
use Rattle.wire.proofs.Cases.{not_done, got_value}
use Rattle.wire.specs.Answer.{Answer, done, refused_at, refused, then, Got, got, value_of}
use Rattle.entry.specs.declared.File.{File}
use Rattle.manifest.specs.Manifest.{Listing, manifest_at}
use Rattle.manifest.specs.Answer.{blank_file, padded, answer_for}
use Rattle.manifest.specs.declared.Manifest.{Manifest}
use Rattle.manifest.proofs.Rounds.{manifest_within}
use Rattle.envelope.specs.Envelope.{total, digests, contents, judged}

-- the files of an array are those that were put into it
padded_files : (fs : List File) → take (length fs) (padded fs) ≡ fs
unfolding padded
padded_files fs = take_at fs (replicate (64 - length fs) blank_file) (length fs) refl

padded_holds : (fs : List File) → length fs ≤ length (padded fs)
unfolding padded
padded_holds fs = omega (arith, length-append fs (replicate (64 - length fs) blank_file))

-- what the manifest's reader answered is a listing
pub record Listed (m : List ℕ) (v : Manifest) : Type 0 where
  pub listing : Listing
  pub next : ℕ
  pub read : manifest_at m ≡ got listing next
  pub count_is : v.count ≡ length listing.files
  pub files_are : v.files ≡ padded listing.files

pub told_listed : (m : List ℕ) (v : Manifest) (next : ℕ) → got v next ≡ answer_for (manifest_at m) → Listed m v
told_listed m v next e = go (manifest_at m) refl e
  where
    go : (g : Got Listing) → manifest_at m ≡ g → got v next ≡ answer_for g → Listed m v
    go (done (l, k)) q h =
        let w = got_value h in
        record {
          listing = l;
          next = k;
          read = q;
          count_is = ap (λ (x : Manifest). x.count) w;
          files_are = ap (λ (x : Manifest). x.files) w;
        }
    go (refused_at n place) q h = not_done (sym h)

-- the manifest was refused
pub judge_refused : (m p : List ℕ) (e : ℕ) → refused e ≡ answer_for (manifest_at m) → refused e ≡ judged m p
unfolding judged
judge_refused m p e h = go (manifest_at m) h
  where
    go : (g : Got Listing) → refused e ≡ answer_for g → refused e ≡ then (value_of g) (λ v. contents m v.files p)
    go (done (v, k)) q = not_done q
    go (refused_at k place) q = let z : ◌≡◌ {A = ℕ} e k = cc in ap refused z

-- it was read: the count is within the array
count_held : (m : List ℕ) (v : Manifest) (l : Listed m v) → v.count ≤ length v.files
count_held m v l = rw (l.count_is, l.files_are) (padded_holds l.listing.files)

pub count_fits : (m : List ℕ) (v : Manifest) (next : ℕ) → got v next ≡ answer_for (manifest_at m) → (v.count ≤ 64) × (v.count ≤ length v.files)
count_fits m v next e =
    let l = told_listed m v next e in
    (omega (arith, l.count_is, (manifest_within m l.read).1), count_held m v l)

-- its files against the payload
module _ (m p : List ℕ) (v : Manifest) (l : Listed m v) where
  -- as many files as the answer counts
  abbrev meant : List File
  meant = take v.count v.files

  meant_are : meant ≡ l.listing.files
  meant_are = ap₂ take l.count_is l.files_are ∙ padded_files l.listing.files

  judged_contents : judged m p ≡ contents m meant p
  unfolding judged
  judged_contents = ap (λ (g : Got Listing). then (value_of g) (λ v. contents m v.files p)) l.read ∙ ap (λ (fs : List File). contents m fs p) (sym meant_are)

  module _ (b : Bool) (e : b ≡ eqb (total meant) (length p)) where
    -- the sizes do not add up
    pub judge_sum : b ≡ false → refused_at 21 v.count ≡ judged m p
    unfolding contents
    judge_sum w =
        let f : eqb (total meant) (length p) ≡ false = sym e ∙ w in
        let n : length meant ≡ v.count = ap length meant_are ∙ sym l.count_is in
        sym (judged_contents ∙ rw (f, n))

    -- they do
    pub judge_digests : b ≡ true → (y : Answer Unit) → y ≡ digests m meant 0 p → y ≡ judged m p
    unfolding contents
    judge_digests w y d =
        let f : eqb (total meant) (length p) ≡ true = sym e ∙ w in
        sym (judged_contents ∙ rw f (sym d))
