-- How long a sheet is at most, so that the room that the program lends always suffices: 11 is never
-- its answer. Assumes nothing.
use mathlib.Core.Path.{◌≡◌, sym, ap}
use mathlib.Core.List.{List}
use Prim.Native.Nat.{ℕ, zero, suc, ◌*◌, ◌≤◌, ◌<◌}
use native.Mathlib.Nat.{suc-mul}
use native.Mathlib.Omega.{arith}
use borrow.Author.Tests.{ltb-true}
use lib.Dec.{ltb}
use lib.ListN.{length, length-append}
use Rattle.wire.specs.Answer.{done}
use Rattle.wire.proofs.Cases.{passed, then_done, done_value}
use Rattle.digits.specs.Decimal.{line_feed}
use Rattle.digits.proofs.Decimals.{decimal_short}
use Rattle.text.specs.Text.{base64, text_of}
use Rattle.page.specs.Page.{page_count, page_frame, count_of, joined}
use Rattle.sheet.specs.Sheet.{id_line, scan_line, place_line, typed_lines, scan_sheet, typed_sheet, scan_verdict, typed_verdict, place_verdict}
use Rattle.sheet.specs.Private.{There}
use Rattle.sheet.proofs.Ids.{id_line_length}
use Rattle.sheet.proofs.Texts.{square_short}
use Rattle.sheet.proofs.Typing.{to_type_short}
use Rattle.sheet.proofs.Sheets.{total_is, total_most, page_there}

pub place_short : (k n : ℕ) → k < 100 → n < 100 → length (place_line k n) ≤ 14
unfolding place_line
place_short k n h l =
    simp length-append (omega (arith, decimal_short k h, decimal_short n l))

-- ---- the lines of a page that there is

module _ (c : List ℕ) (size k : ℕ) (t : There c size k) where
  pub scan_line_short : length (scan_line c size k) ≤ 668
  unfolding scan_line
  scan_line_short = omega (arith, length-append (text_of base64 (page_frame c size k)) line_feed, square_short c size k t)

  pub typed_lines_short : page_count (length c) size ≤ 96 → length (typed_lines c size k) ≤ 994
  unfolding typed_lines
  typed_lines_short m =
      let p = place_short k (page_count (length c) size) (omega (arith, t.below)) (omega arith) in
      simp length-append (omega (arith, to_type_short c size k))

-- ---- a sheet

joined_short : (n b : ℕ) (g : ℕ → List ℕ) → ((k : ℕ) → k < n → length (g k) ≤ b) → length (joined n g) ≤ n * b
unfolding joined
joined_short zero b g h = omega arith
joined_short (suc n) b g h =
    omega (arith, length-append (joined n g) (g n), joined_short n b g (λ k l. h k (omega arith)), h n (omega arith), suc-mul n b)

module _ (c : List ℕ) (size n : ℕ) (h : done n ≡ count_of (length c) size) where
  here : (k : ℕ) → k < page_count (length c) size → There c size k
  here k l = page_there c size n h k (omega (arith, total_is c size n h))

  few : page_count (length c) size ≤ 96
  few = omega (arith, total_is c size n h, total_most c size n h)

  pub scan_sheet_short : length (scan_sheet c size) ≤ 64145
  unfolding scan_sheet
  scan_sheet_short =
      omega (arith, length-append (id_line c) (joined (page_count (length c) size) (scan_line c size)), id_line_length c, joined_short (page_count (length c) size) 668 (scan_line c size) (λ k l. scan_line_short c size k (here k l)), few)

  pub typed_sheet_short : length (typed_sheet c size) ≤ 95441
  unfolding typed_sheet
  typed_sheet_short =
      omega (arith, length-append (id_line c) (joined (page_count (length c) size) (typed_lines c size)), id_line_length c, joined_short (page_count (length c) size) 994 (typed_lines c size) (λ k l. typed_lines_short c size k (here k l) few), few)

-- ---- so 95,441 bytes, which the program has, are room for all that is printed

module _ (c : List ℕ) (size : ℕ) (bs : List ℕ) where
  -- For the reader: `sheet::scans` does not answer 11 then,
  pub scan_room : scan_verdict c size ≡ done bs → length bs ≤ 95441
  unfolding scan_verdict
  scan_room e =
      let (n, h, q) = then_done (count_of (length c) size) _ e in
      omega (arith, scan_sheet_short c size n (sym h), ap length (done_value q))

  -- For the reader: nor does `sheet::typed`,
  pub typed_room : typed_verdict c size ≡ done bs → length bs ≤ 95441
  unfolding typed_verdict
  typed_room e =
      let (n, h, q) = then_done (count_of (length c) size) _ e in
      omega (arith, typed_sheet_short c size n (sym h), ap length (done_value q))

  -- For the reader: nor `sheet::typed_page`
  pub place_room : (k : ℕ) → place_verdict c size k ≡ done bs → length bs ≤ 95441
  unfolding place_verdict
  place_room k e =
      let (n, h, t) = then_done (count_of (length c) size) _ e in
      let (l, q) = passed (ltb k n) _ 8 t in
      let there = page_there c size n (sym h) k (ltb-true k n l) in
      omega (arith, typed_lines_short c size k there (few c size n (sym h)), ap length (done_value q))
