-- How a document is cut: only the last page may be short, it too has a byte, and the pages in order
-- are the document. Assumes nothing.
use Prim.Native.Nat.{ℕ, zero, suc, ◌+◌, ◌-◌, ◌*◌, ◌/◌, ◌≤◌, ◌<◌}
use mathlib.Core.Path.{◌≡◌, sym, ◌∙◌}
use mathlib.Core.List.{List}
use native.Mathlib.Nat.{zero-mul, suc-mul, div-add-mod', mod-lt, mul-le-mul_right}
use native.Mathlib.Omega.{arith}
use lib.ListN.{length, take, drop, length-take, length-drop}
use lib.Seq.{take_all, take-add, length-take-le}
use Rattle.page.specs.Page.{page_count, page_data, joined}

module _ (n size : ℕ) (z : 0 < size) where
  -- the count is right: one page less would not hold the bytes, and this many do
  pub count_holds : n ≤ page_count n size * size
  unfolding page_count
  count_holds = omega (arith, div-add-mod' (n + (size - 1)) size, mod-lt (n + (size - 1)) z)

  pub count_fewest : 0 < n → (page_count n size - 1) * size < n
  unfolding page_count
  count_fewest h =
      let q : ℕ = (n + (size - 1)) / size in
      fewest q (omega (arith, div-add-mod' (n + (size - 1)) size, mod-lt (n + (size - 1)) z))
    where
      fewest : (q : ℕ) → q * size ≤ n + (size - 1) → (q - 1) * size < n
      fewest zero l = omega arith
      fewest (suc q) l =
          let e : suc q - 1 ≡ q = omega arith in
          rw e (omega (arith, suc-mul q size))

module _ (c : List ℕ) (size : ℕ) (z : 0 < size) where
  pub page_length : (i : ℕ) → length (page_data c size i) ≤ size
  unfolding page_data
  page_length i = omega (arith, length-take size (drop (i * size) c))

  -- For the reader: a page before the last has its whole size
  pub page_full : 0 < length c → (i : ℕ) → i + 1 < page_count (length c) size → length (page_data c size i) ≡ size
  unfolding page_data
  page_full l i h =
      let t : suc i ≤ page_count (length c) size - 1 = omega arith in
      length-take-le size (drop (i * size) c)
      (omega (arith, length-drop (i * size) c, mul-le-mul_right size t, suc-mul i size, count_fewest (length c) size z l))

  -- For the reader: no page is empty, not the last either
  pub page_some : 0 < length c → (i : ℕ) → i < page_count (length c) size → 0 < length (page_data c size i)
  unfolding page_data
  page_some l i h =
      let t : i ≤ page_count (length c) size - 1 = omega arith in
      omega (arith, length-take size (drop (i * size) c), length-drop (i * size) c, mul-le-mul_right size t, count_fewest (length c) size z l)

  joined_front : (k : ℕ) → joined k (page_data c size) ≡ take (k * size) c
  unfolding joined page_data
  joined_front zero = rw (zero-mul size)
  joined_front (suc k) = rw (joined_front k, suc-mul k size) (sym (take-add (k * size) size c))

  -- one behind the other, the data of all pages are what was printed
  pub pages_join : joined (page_count (length c) size) (page_data c size) ≡ c
  pages_join = joined_front (page_count (length c) size) ∙ take_all (page_count (length c) size * size) c (count_holds (length c) size z)
