-- Which bytes a float begins with, over plain numbers: `float::begins` cites no number of its
-- pattern. Assumes nothing.
use Prim.Native.Nat.{ℕ, ◌<◌, ◌≤◌}
use mathlib.Core.Path.{◌≡◌}
use mathlib.Core.Bool.{true, false}
use native.Mathlib.Omega.{arith}
use borrow.Author.Tests.{le-leb, lt-leb}
use Rattle.cbor.specs.Form.{first_of}
use Rattle.cbor.specs.Item.{is_float}

module _ (x : ℕ) where
  pub begins_within : 249 ≤ x → x ≤ 251 → is_float x ≡ true
  unfolding is_float first_of
  begins_within a b = rw (le-leb 249 x a, le-leb x 251 b)

  pub begins_below : x < 249 → is_float x ≡ false
  unfolding is_float first_of
  begins_below a = rw (lt-leb 249 x a)

  pub begins_above : 251 < x → is_float x ≡ false
  unfolding is_float first_of
  begins_above a = rw (le-leb 249 x (omega arith), lt-leb x 251 a)
