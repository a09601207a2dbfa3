-- The judge's two loops over a manifest's files: after each turn, what is judged and what is left.
-- Assumes nothing.
use Prim.Native.Nat.{ℕ, ◌+◌, ◌-◌, ◌^◌, ◌<◌, ◌≤◌}
use mathlib.Core.Path.{◌≡◌, refl, sym, ap, ◌∙◌}
use mathlib.Core.Bool.{Bool, true, false}
use mathlib.Core.Logic.{◌⊎◌, inl, inr}
use mathlib.Core.List.{List, []}
use native.Mathlib.Omega.{arith}
use borrow.Author.Tests.{eq-eqb, ne_eqb}
use lib.Dec.{eqb}
use mir.Syntax.{w64}
use mir.Val.{Fits}
use lib.ListN.{length, take, drop, get_or, drop_of_length-le}
use lib.Seq.{drop-drop}
use Rattle.wire.proofs.Cases.{eq_or_ne}
use Rattle.lend.specs.Same.{same}
use Rattle.sha256.specs.Sha.{sha256}
use Rattle.entry.specs.declared.File.{File}
use Rattle.manifest.proofs.Judging.{file_next}
use Rattle.wire.specs.Answer.{done, refused_at}
use Rattle.wire.specs.Span.{part_at}
use Rattle.envelope.specs.Envelope.{total, digests}

-- k files were taken off n, and left is left: the answer is that of the others
pub record Summing (fs : List File) (n left k : ℕ) : Type 0 where
  pub rest : eqb (total fs) n ≡ eqb (total (drop k fs)) left

-- i files hold, and what comes after them starts at position at of the payload p: the answer is
-- that of the others
pub record Digesting (m p : List ℕ) (fs : List File) (at i : ℕ) : Type 0 where
  pub rest : digests m fs 0 p ≡ digests m (drop i fs) i (drop at p)
  pub left : at + total (drop i fs) ≡ length p

-- two tests that hold of each other
same_test : (a b x y : ℕ) → (a ≡ b → x ≡ y) → (x ≡ y → a ≡ b) → eqb a b ≡ eqb x y
same_test a b x y to fro = go (eq_or_ne a b)
  where
    go : (a ≡ b) ⊎ (a ≡ b → ⊥) → eqb a b ≡ eqb x y
    go (inl e) = eq-eqb a b e ∙ sym (eq-eqb x y (to e))
    go (inr e) = ne_eqb a b e ∙ sym (ne_eqb x y (λ h. e (fro h)))

-- file k of fs
module _ (fs : List File) (k : ℕ) (d : File) (here : k < length fs) where
  abbrev f : File
  f = get_or fs k d

  total_next : total (drop k fs) ≡ f.size + total (drop (k + 1) fs)
  unfolding total
  total_next = ap total (file_next fs k d here)

  module _ (n left : ℕ) (s : Summing fs n left k) where
    -- it is larger than what is left
    pub summing_stop : left < f.size → false ≡ eqb (total fs) n
    summing_stop h = sym (s.rest ∙ ne_eqb (total (drop k fs)) left (λ e. omega (arith, total_next)))

    pub summing_on : f.size ≤ left → Summing fs n (left - f.size) (k + 1)
    summing_on h =
        record {
          rest =
              s.rest
              ∙ same_test (total (drop k fs)) left (total (drop (k + 1) fs)) (left - f.size) (λ e. omega (arith, total_next)) (λ e. omega (arith, total_next));
        }

  module _ (m p : List ℕ) (at : ℕ) (s : Digesting m p fs at k) where
    -- its contents stand within the payload
    pub contents_within : at + f.size ≤ length p
    contents_within = omega (arith, total_next, s.left)

    pub within_fits : length p < 2 ^ 64 → Fits w64 (at + f.size)
    within_fits b = record { fits = omega (arith, contents_within) }

    -- what the code compares: the digest of the contents, and the hash
    module _ (digest hash : List ℕ) (b : Bool) (e : digest ≡ sha256 (take (at + f.size - at) (drop at p))) (h : hash ≡ part_at m f.hash) (c : b ≡ same digest hash) where
      compared : same (sha256 (take f.size (drop at p))) (part_at m f.hash) ≡ b
      compared =
          let z : at + f.size - at ≡ f.size = omega arith in
          sym (c ∙ rw (e, h, z))

      pub digesting_stop : b ≡ false → refused_at 21 k ≡ digests m fs 0 p
      unfolding digests
      digesting_stop w = sym (s.rest ∙ rw (file_next fs k d here, compared, w))

      pub digesting_on : b ≡ true → Digesting m p fs (at + f.size) (k + 1)
      unfolding digests
      digesting_on w =
          record {
            rest = s.rest ∙ rw (file_next fs k d here, compared, w) (ap (digests m (drop (k + 1) fs) (k + 1)) (drop-drop f.size at p));
            left = omega (arith, total_next, s.left);
          }

-- all files are passed
module _ (fs : List File) (k : ℕ) (past : length fs ≤ k) where
  none_left : drop k fs ≡ []
  none_left = drop_of_length-le fs {i = k} past

  pub summing_end : (n left : ℕ) → Summing fs n left k → eqb left 0 ≡ eqb (total fs) n
  unfolding total
  summing_end n left s = sym (s.rest ∙ rw none_left (same_test 0 left left 0 sym sym))

  pub digesting_end : (m p : List ℕ) (at : ℕ) → Digesting m p fs at k → done tt ≡ digests m fs 0 p
  unfolding digests
  digesting_end m p at s = sym (s.rest ∙ rw none_left)
