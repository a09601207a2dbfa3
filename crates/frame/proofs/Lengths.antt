-- How many bytes a frame has. Assumes nothing.
use Prim.Native.Nat.{ℕ, ◌+◌, ◌<◌, ◌≤◌}
use mathlib.Core.Path.{◌≡◌}
use mathlib.Core.List.{List}
use native.Mathlib.Omega.{arith}
use lib.ListN.{length, length-append}
use Rattle.wire.proofs.Digits.{length_digits}
use Rattle.varint.specs.Varint.{varint}
use Rattle.varint.proofs.Lengths.{varint_length, varint_length_one}
use Rattle.mark.proofs.Marks.{mark_length}
use Rattle.frame.specs.Frame.{magic}
use Rattle.frame.specs.Layout.{start, numbers, body, layout}

-- 3 of magic and version, one of type, 8 of id
pub start_length : (kind : ℕ) (id : List ℕ) → length id ≡ 8 → length (start kind id) ≡ 12
unfolding start
start_length kind id h = simp (length-append, mark_length magic, h)

pub numbers_length : (index total len : ℕ) → length (numbers index total len) ≡ length (varint index) + length (varint total) + length (varint len)
unfolding numbers
numbers_length index total len = simp length-append

-- the varints take from 3 to 30 bytes
pub numbers_least : (index total len : ℕ) → 3 ≤ length (numbers index total len)
numbers_least index total len = omega (arith, numbers_length index total len, varint_length index, varint_length total, varint_length len)

pub numbers_most : (index total len : ℕ) → length (numbers index total len) ≤ 30
numbers_most index total len = omega (arith, numbers_length index total len, varint_length index, varint_length total, varint_length len)

module _ (kind : ℕ) (id : List ℕ) (index total : ℕ) (contents : List ℕ) (eight : length id ≡ 8) where
  pub body_length : length (body kind id index total contents) ≡ 12 + length (numbers index total (length contents)) + length contents
  unfolding body
  body_length = simp (length-append, start_length kind id eight)

  pub layout_length : length (layout kind id index total contents) ≡ 16 + length (numbers index total (length contents)) + length contents
  unfolding layout
  layout_length = simp (length-append, length_digits, body_length) (omega arith)

  -- where each of INDEX and TOTAL takes one byte
  pub layout_length_short : index < 128 → total < 128 → length (layout kind id index total contents) ≡ 18 + length (varint (length contents)) + length contents
  layout_length_short i t = omega (arith, layout_length, numbers_length index total (length contents), varint_length_one index i, varint_length_one total t)
