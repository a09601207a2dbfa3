-- What the loop of `big_endian` goes by: n is the number in the first i bytes. Assumes nothing.
use Prim.Native.Nat.{ℕ, ◌+◌, ◌*◌, ◌^◌, ◌<◌, ◌≤◌}
use mathlib.Core.Path.{◌≡◌, refl, sym, ap, ◌∙◌}
use mathlib.Core.List.{List, [], ◌∷◌, ◌++◌}
use native.Mathlib.Nat.{pow-suc, pow-le-pow_right}
use native.Mathlib.Numerals.{add-one}
use native.Mathlib.Omega.{arith}
use lib.ListN.{length, take, get_or}
use lib.Seq.{take-suc, take_all}
use lib.Dec.{lit<}
use mir.Syntax.{w8, w64}
use mir.Val.{Fits}
use Rattle.wire.specs.Number.{number_from, number}
use Rattle.wire.proofs.Digits.{number_snoc}

pub record Counting (s : List ℕ) (n i : ℕ) : Type 0 where
  pub below : n < 256 ^ i
  pub so_far : n ≡ number 256 (take i s)

pub count_none : (s : List ℕ) → Counting s 0 0
unfolding number_from
count_none s = record { below = omega arith; so_far = refl }

-- one byte more
byte_more : (n i x : ℕ) → n < 256 ^ i → x < 256 → n * 256 + x < 256 ^ (i + 1)
byte_more n i x h l = rw (add-one i, pow-suc 256 i) (omega arith)

module _ (s : List ℕ) (n i : ℕ) (h : Counting s n i) (l : i < length s) where
  pub count_more : (x : ℕ) → x ≡ get_or s i 0 → ((j : ℕ) → Fits w8 (get_or s j 0)) → Counting s (n * 256 + x) (i + 1)
  count_more x e y =
      let t : take (i + 1) s ≡ take i s ++ (x ∷ []) =
      ap (λ (j : ℕ). take j s) (add-one i) ∙ take-suc s i 0 l ∙ ap (λ (b : ℕ). take i s ++ (b ∷ [])) (sym e) in
      record {
        below = byte_more n i x h.below (omega (arith, (y i).fits));
        so_far = ap (λ (m : ℕ). m * 256 + x) h.so_far ∙ sym (number_snoc 256 0 (take i s) x) ∙ ap (number 256) (sym t);
      }

  -- eight bytes at most
  below_word : length s ≤ 8 → n * 256 + 255 < 2 ^ 64
  below_word b =
      omega (arith, byte_more n i 255 h.below (omega arith), pow-le-pow_right {n = 256} (lit< tt) {i = i + 1} {j = 8} (omega arith))

  pub product_fits : length s ≤ 8 → Fits w64 (n * 256)
  product_fits b = record { fits = omega (arith, below_word b) }

  pub sum_fits : length s ≤ 8 → (x : ℕ) → x ≡ get_or s i 0 → ((j : ℕ) → Fits w8 (get_or s j 0)) → Fits w64 (n * 256 + x)
  sum_fits b x e y = record { fits = omega (arith, below_word b, (y i).fits) }

pub count_all : (s : List ℕ) (n i : ℕ) → Counting s n i → length s ≤ i → n ≡ number 256 s
count_all s n i h l = h.so_far ∙ ap (number 256) (take_all i s l)
