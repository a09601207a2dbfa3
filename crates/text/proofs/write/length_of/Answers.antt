-- `text::write::length_of` meets its contract: the groups come out whole. Assumes nothing.
use mathlib.Core.Path.{◌≡◌}
use mathlib.Core.Logic.{inl, inr}
use Prim.Native.Nat.{ℕ, ◌+◌, ◌-◌, ◌*◌, ◌/◌, ◌%◌, ◌^◌, ◌<◌}
use native.Mathlib.Omega.{arith}
use Rattle.text.specs.Text.{characters}
use Rattle.text.specs.Private.{Narrow}
use Rattle.text.proofs.Counts.{narrow_bounds}
use Rattle.text.proofs.Sorts.{form_width}
use Rattle.text.proofs.write.length_of.Goals as goal

-- the groups and the rest, at either width
grouped : (w n : ℕ) → Narrow w → n < 2 ^ 63
    → (n / w * 8 < 2 ^ 64) × (n % w * 8 < 64) × (n % w * 8 + (w - 1) < 2 ^ 64) × (n / w * 8 + (n % w * 8 + (w - 1)) / w < 2 ^ 64) × (n / w * 8 + (n % w * 8 + (w - 1)) / w ≡ (8 * n + (w - 1)) / w)
grouped w n (inl e) h = rw e (omega arith, omega arith, omega arith, omega arith, omega arith)
grouped w n (inr e) h = rw e (omega arith, omega arith, omega arith, omega arith, omega arith)

pub nonzero_div-result : goal.nonzero_div-result
nonzero_div-result c = omega (arith, narrow_bounds c.args.w c.requires.0)

pub overflow_mul-result : goal.overflow_mul-result
overflow_mul-result c = record { fits = (grouped c.args.w c.args.n c.requires.0 c.requires.1).0 }

pub nonzero_rem-result : goal.nonzero_rem-result
nonzero_rem-result c = omega (arith, narrow_bounds c.args.w c.requires.0)

pub overflow_mul-result-2 : goal.overflow_mul-result-2
overflow_mul-result-2 c = let h = (grouped c.args.w c.args.n c.requires.0 c.requires.1).1 in record { fits = omega arith }

pub overflow_sub-result : goal.overflow_sub-result
overflow_sub-result c = omega (arith, narrow_bounds c.args.w c.requires.0)

pub overflow_add-result : goal.overflow_add-result
overflow_add-result c = record { fits = (grouped c.args.w c.args.n c.requires.0 c.requires.1).2 }

pub nonzero_div-result-2 : goal.nonzero_div-result-2
nonzero_div-result-2 c = omega (arith, narrow_bounds c.args.w c.requires.0)

pub overflow_add-result-2 : goal.overflow_add-result-2
overflow_add-result-2 c = record { fits = (grouped c.args.w c.args.n c.requires.0 c.requires.1).3 }

pub returns : goal.returns
unfolding characters
returns c = rw (form_width c.args.w c.requires.0) (grouped c.args.w c.args.n c.requires.0 c.requires.1).4
