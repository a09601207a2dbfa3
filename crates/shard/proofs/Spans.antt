-- The contents of `type`, as the code takes them out of the input: from where they start to the
-- position past them. Assumes nothing.
use Prim.Native.Nat.{ℕ, ◌+◌, ◌-◌, ◌≤◌}
use mathlib.Core.Path.{◌≡◌, sym, ap, ◌∙◌}
use mathlib.Core.Bool.{Bool}
use mathlib.Core.List.{List}
use native.Mathlib.Omega.{arith}
use lib.ListN.{length, take, drop}
use Rattle.wire.specs.Answer.{got}
use Rattle.wire.specs.declared.Span.{Span}
use Rattle.cbor.specs.Item.{contents_at}
use Rattle.cbor.proofs.Within.{contents_within}
use Rattle.shard.specs.Shard.{known}

module _ (s : List ℕ) (at n : ℕ) (v : Span) (next : ℕ) (e : got v next ≡ contents_at s at n) where
  within : (v.len ≡ n) × (v.start + v.len ≡ next) × (next ≤ length s)
  within = contents_within s at n (sym e)

  pub span_start : v.start ≤ next
  span_start = omega (arith, within.1)

  pub span_end : next ≤ length s
  span_end = within.2

  -- what was said of those bytes
  pub span_said : (r b : Bool) → r ≡ known (take (next - v.start) (drop v.start s)) → r ≡ b → known (take v.len (drop v.start s)) ≡ b
  span_said r b f h =
      let l : v.len ≡ next - v.start = omega (arith, within.1) in
      ap (λ (j : ℕ). known (take j (drop v.start s))) l ∙ sym f ∙ h
