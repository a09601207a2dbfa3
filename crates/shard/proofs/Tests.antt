-- For `search`: the tests of a share's size. Assumes nothing.
use Prim.Native.Nat.{ℕ, ◌-◌, ◌%◌, ◌<◌, ◌≤◌}
use mathlib.Core.Path.{◌≡◌, sym, ◌∙◌}
use mathlib.Core.Logic.{⊎_elim}
use mathlib.Core.Bool.{false}
use native.Mathlib.Omega.{arith}
use borrow.Author.Tests.{eq-eqb, ne_eqb}
use lib.Dec.{eqb}
use Rattle.wire.proofs.Cases.{eq_or_ne}
use Rattle.shard.specs.Shard.{padded}

-- a share is the whole blocks of 16 that hold len
module _ (share len : ℕ) where
  pub fills_less : share < len → false ≡ eqb share (padded len)
  unfolding padded
  fills_less l = sym (ne_eqb share (padded len) (λ (e : share ≡ padded len). omega arith))

  pub fills_more : len ≤ share → 16 ≤ share - len → false ≡ eqb share (padded len)
  unfolding padded
  fills_more l m = sym (ne_eqb share (padded len) (λ (e : share ≡ padded len). omega arith))

  pub fills_whole : len ≤ share → share - len < 16 → eqb (share % 16) 0 ≡ eqb share (padded len)
  unfolding padded
  fills_whole l m =
      ⊎_elim
      (λ (e : share % 16 ≡ 0). eq-eqb (share % 16) 0 e ∙ sym (eq-eqb share (padded len) (omega arith)))
      (λ (n : share % 16 ≡ 0 → ⊥). ne_eqb (share % 16) 0 n ∙ sym (ne_eqb share (padded len) (λ (e : share ≡ padded len). n (omega arith))))
      (eq_or_ne (share % 16) 0)
