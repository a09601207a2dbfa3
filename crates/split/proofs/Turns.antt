-- The loops that lay shares: what stands in the output after each turn. Assumes nothing.
use mathlib.Core.Path.{◌≡◌, sym, ap, ap₂, ◌∙◌}
use mathlib.Core.List.{List, ◌∷◌, ◌++◌}
use Prim.Native.Nat.{ℕ, ◌+◌, ◌-◌, ◌*◌, ◌<◌, ◌≤◌}
use native.Mathlib.Numerals.{add-one}
use native.Mathlib.Omega.{arith}
use lib.ListN.{length, take, drop}
use Rattle.wire.specs.Number.{big_endian}
use Rattle.wire.specs.Over.{over}
use Rattle.wire.proofs.Digits.{length_digits}
use Rattle.wire.proofs.Overs.{over_none, over_then, length_over}
use Rattle.field.specs.Element.{joined, halves, block}
use Rattle.field.proofs.Elements.{joined_halves}
use Rattle.curve.specs.Curve.{value_at, blocks}
use Rattle.split.specs.Private.{block_of}
use Rattle.split.specs.Split.{share_of, shares_from}
use Rattle.split.proofs.Sharing.{share_snoc, length_share, shares_snoc, length_shares, part_fits}
use Rattle.split.proofs.Values.{all_after}

-- ---- one block of a share

module _ (k more : ℕ) (secret cs : List ℕ) (x : ℕ) where
  pub block_made : (first v b : List ℕ) → first ≡ halves (block (take (length secret - k * 16) (drop (k * 16) secret)))
      → v ≡ halves (value_at (joined first ∷ blocks more (take (length cs - k * (more * 16)) (drop (k * (more * 16)) cs))) x)
      → b ≡ big_endian 16 (joined v) → b ≡ block_of k more secret cs x
  block_made first v b e f g =
      let q : joined first ≡ block (drop (k * 16) secret) = ap joined e ∙ joined_halves _ ∙ ap block (all_after (k * 16) secret) in
      g
      ∙ ap (big_endian 16) (ap joined f ∙ joined_halves _)
      ∙ ap₂ (λ (a : ℕ) (c : List ℕ). big_endian 16 (value_at (a ∷ blocks more c) x)) q (all_after (k * (more * 16)) cs)

-- ---- a share, block after block

module _ (n more : ℕ) (secret cs : List ℕ) (x at : ℕ) (out₀ : List ℕ) where
  -- the first k blocks of the share stand from index at on
  abbrev pub Laid : ℕ → List ℕ → Type 0
  Laid k out = (k ≤ n) × (out ≡ over at (share_of k more secret cs x) out₀)

  pub no_block : Laid 0 out₀
  unfolding share_of
  no_block = (omega arith, sym (over_none at out₀))

  module _ (k : ℕ) (out : List ℕ) (l : Laid k out) where
    pub laid_all : n ≤ k → out ≡ over at (share_of n more secret cs x) out₀
    laid_all h = let e : k ≡ n = omega arith in l.1 ∙ ap (λ (j : ℕ). over at (share_of j more secret cs x) out₀) e

    pub next_block : (b out' : List ℕ) → k < n → at + n * 16 ≤ length out₀ → b ≡ block_of k more secret cs x → out' ≡ over (at + k * 16) b out
        → Laid (k + 1) out'
    next_block b out' h room e o =
        let so : List ℕ = share_of k more secret cs x in
        let long : length b ≡ 16 = ap length e ∙ length_digits 256 16 _ in
        let there : at + k * 16 ≡ at + length so = omega (arith, length_share k more secret cs x) in (
          omega arith,
          over_then at (at + k * 16) so b out₀ out out' o l.1 there (omega (arith, long))
              ∙ ap (λ (r : List ℕ). over at r out₀) (ap (λ (r : List ℕ). so ++ r) e ∙ sym (share_snoc k more secret cs x))
              ∙ ap (λ (j : ℕ). over at (share_of j more secret cs x) out₀) (sym (add-one k)),
        )

-- ---- the shares, one after another

module _ (count n more : ℕ) (secret cs out₀ : List ℕ) where
  -- the first i shares stand from the front on
  abbrev pub Given : ℕ → List ℕ → Type 0
  Given i out = (i ≤ count) × (out ≡ over 0 (shares_from i 1 n more secret cs) out₀)

  pub no_share : Given 0 out₀
  unfolding shares_from
  no_share = (omega arith, sym (over_none 0 out₀))

  module _ (i : ℕ) (out : List ℕ) (g : Given i out) where
    pub given_length : length out ≡ length out₀
    given_length = ap length g.1 ∙ length_over 0 (shares_from i 1 n more secret cs) out₀

    pub given_all : count ≤ i → out ≡ over 0 (shares_from count 1 n more secret cs) out₀
    given_all h = let e : i ≡ count = omega arith in g.1 ∙ ap (λ (j : ℕ). over 0 (shares_from j 1 n more secret cs) out₀) e

    module _ (h : i < count) (room : count * (n * 16) ≤ length out₀) where
      pub share_fits : i * (n * 16) + n * 16 ≤ length out
      share_fits = omega (arith, part_fits i count (n * 16) (length out₀) h room, given_length)

      pub next_share : (out' : List ℕ) → out' ≡ over (i * (n * 16)) (share_of n more secret cs (i + 1)) out → Given (i + 1) out'
      next_share out' o =
          let so : List ℕ = shares_from i 1 n more secret cs in
          let b : List ℕ = share_of n more secret cs (i + 1) in
          let q : i + 1 ≡ 1 + i = omega arith in (
            omega arith,
            over_then 0 (i * (n * 16)) so b out₀ out out' o g.1 (omega (arith, length_shares i 1 n more secret cs))
                (omega (arith, length_share n more secret cs (i + 1), part_fits i count (n * 16) (length out₀) h room))
                ∙ ap (λ (r : List ℕ). over 0 r out₀) (ap (λ (j : ℕ). so ++ share_of n more secret cs j) q ∙ sym (shares_snoc i 1 n more secret cs))
                ∙ ap (λ (j : ℕ). over 0 (shares_from j 1 n more secret cs) out₀) (sym (add-one i)),
          )
