-- How many pages there are, as the code tests it. Assumes nothing.
use Prim.Native.Nat.{ℕ, ◌+◌, ◌-◌, ◌*◌, ◌/◌, ◌≤◌, ◌<◌}
use mathlib.Core.Path.{◌≡◌, ap, ◌∙◌}
use mathlib.Core.Bool.{true}
use native.Mathlib.Nat.{add-mul-div_right, one-mul}
use native.Mathlib.Omega.{arith}
use borrow.Author.Tests.{lt-ltb, le-ltb, le-leb, lt-leb}
use Rattle.wire.specs.Answer.{done, refused}
use Rattle.page.specs.Page.{page_count, printable, count_of}

-- one more than the pages before the last
pub count_is : (n size : ℕ) → 0 < n → 0 < size → page_count n size ≡ (n - 1) / size + 1
unfolding page_count
count_is n size h z =
    let e : n + (size - 1) ≡ (n - 1) + 1 * size = omega (arith, one-mul size) in
    ap (λ (x : ℕ). x / size) e ∙ add-mul-div_right (n - 1) 1 z

module _ (n size : ℕ) where
  -- the three ways to have no pages
  pub nothing : n ≡ 0 → refused 19 ≡ count_of n size
  unfolding count_of printable
  nothing e = rw (le-ltb 0 n (omega arith))

  pub no_size : 0 < n → size ≡ 0 → refused 19 ≡ count_of n size
  unfolding count_of printable
  no_size h e = rw (lt-ltb 0 n h, le-ltb 0 size (omega arith))

  pub large_size : 0 < n → 0 < size → 480 < size → refused 19 ≡ count_of n size
  unfolding count_of printable
  large_size h z l = rw (lt-ltb 0 n h, lt-ltb 0 size z, lt-leb size 480 l)

  module _ (h : 0 < n) (z : 0 < size) (l : size ≤ 480) where
    in_print : printable n size ≡ true
    unfolding printable
    in_print = rw (lt-ltb 0 n h, lt-ltb 0 size z, le-leb size 480 l)

    pub too_many : 96 ≤ (n - 1) / size → refused 9 ≡ count_of n size
    unfolding count_of
    too_many m = rw (in_print, count_is n size h z, lt-leb ((n - 1) / size + 1) 96 (omega arith))

    pub few_enough : (n - 1) / size < 96 → done ((n - 1) / size + 1) ≡ count_of n size
    unfolding count_of
    few_enough m = rw (in_print, count_is n size h z, le-leb ((n - 1) / size + 1) 96 (omega arith))
