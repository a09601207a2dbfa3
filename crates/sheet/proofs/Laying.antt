-- The line that says a page's place, as it is laid. Assumes nothing.
use mathlib.Core.Path.{◌≡◌, refl}
use mathlib.Core.List.{List, ◌++◌}
use Prim.Native.Nat.{ℕ, ◌+◌, ◌≤◌, ◌<◌}
use native.Mathlib.Omega.{arith}
use lib.ListN.{length}
use Rattle.digits.specs.Private.{Laid}
use Rattle.wire.specs.Over.{over}
use Rattle.digits.specs.Decimal.{decimal, line_feed}
use Rattle.digits.proofs.Decimals.{decimal_short}
use Rattle.digits.proofs.Laying.{laid_one, laid_then}
use Rattle.sheet.specs.Sheet.{page_word, of_word, place_line}

-- ---- `page K of N`

-- a digits and b digits
pub place_laid : (at k n a b : ℕ) (l x1 x2 x3 x4 x5 : List ℕ) → k < 100 → n < 100 → at + 14 ≤ length l → x1 ≡ over at page_word l
    → (a ≡ length (decimal k)) × (a ≤ 3) × (x2 ≡ over (at + 5) (decimal k) x1) → x3 ≡ over (at + 5 + a) of_word x2
    → (b ≡ length (decimal n)) × (b ≤ 3) × (x4 ≡ over (at + 5 + a + 4) (decimal n) x3) → x5 ≡ over (at + 5 + a + 4 + b) line_feed x4
    → Laid at 14 (place_line k n) l x5 (at + 5 + a + 4 + b + 1)
unfolding place_line
place_laid at k n a b l x1 x2 x3 x4 x5 h i room p (e, s, q) f (g, t, u) w =
    let m = at + 5 + a in
    let d = decimal_short k h in
    let c = decimal_short n i in
    let g1 = laid_one at 5 page_word l x1 (at + 5) refl (omega arith) p in
    let g2 = laid_then at 5 (at + 5) 2 m page_word (decimal k) l x1 x2 g1 (laid_one (at + 5) 2 (decimal k) x1 x2 m (omega arith) d q) (omega arith) in
    let g3 = laid_then at 7 m 4 (m + 4) (page_word ++ decimal k) of_word l x2 x3 g2 (laid_one m 4 of_word x2 x3 (m + 4) refl (omega arith) f) (omega arith) in
    let g4 = laid_then at 11 (m + 4) 2 (m + 4 + b) (page_word ++ decimal k ++ of_word) (decimal n) l x3 x4 g3 (laid_one (m + 4) 2 (decimal n) x3 x4 (m + 4 + b) (omega arith) c u) (omega arith) in
    laid_then at 13 (m + 4 + b) 1 (m + 4 + b + 1) (page_word ++ decimal k ++ of_word ++ decimal n) line_feed l x4 x5 g4 (laid_one (m + 4 + b) 1 line_feed x4 x5 (m + 4 + b + 1) refl (omega arith) w) (omega arith)
