-- The line of the counts, as it is laid. Assumes nothing.
use mathlib.Core.Path.{◌≡◌, refl}
use mathlib.Core.List.{List, [], ◌∷◌}
use Prim.Native.Nat.{ℕ, zero, suc, ◌+◌, ◌-◌, ◌≤◌}
use native.Mathlib.Omega.{arith}
use lib.ListN.{length, take, drop, get_or, replicate, length-replicate}
use Rattle.wire.specs.Answer.{Answer, done, Kept}
use Rattle.wire.specs.Ascii.{ascii}
use Rattle.wire.specs.Over.{over}
use Rattle.wire.specs.Writing.{writing}
use Rattle.digits.specs.Decimal.{numeral, line_feed}
use Rattle.digits.specs.Private.{Laid}
use Rattle.digits.proofs.Laying.{laid_one, laid_then, laid_whole}
use Rattle.told.specs.Lines.{counted, counts_line}

pub name_laid : (from v r k : ℕ) (name n l x y : List ℕ) → from + length name + 20 ≤ length l → x ≡ over from name l → v ≡ get_or n k 0
    → (r ≡ length (numeral v)) × (r ≤ 20) × (y ≡ over (from + length name) (numeral v) x)
    → Laid from (length name + 20) (counted name n k) l y (from + length name + r)
name_laid from v r k name n l x y room e f (g, h, i) =
    let a = laid_one from (length name) name l x (from + length name) refl (omega arith) e in
    let b = laid_one (from + length name) 20 (numeral v) x y (from + length name + r) (omega arith) (omega arith) i in
    rw (← f) (laid_then from (length name) (from + length name) 20 (from + length name + r) name (numeral v) l x y a b (omega arith))

module _ (n : List ℕ) where
  pub counts_laid : (a b d e f : ℕ) (x1 x2 x3 x4 x5 x6 out out' : List ℕ) (r : Answer ℕ) → Laid 0 33 (counted (ascii "lines: taken ") n 0) (replicate 180 0) x1 a
      → Laid a 34 (counted (ascii ", seen before ") n 1) x1 x2 b → Laid b 42 (counted (ascii ", of another document ") n 2) x2 x3 d
      → Laid d 33 (counted (ascii ", unreadable ") n 3) x3 x4 e → Laid e 31 (counted (ascii ", too long ") n 4) x4 x5 f → x6 ≡ over f line_feed x5
      → Kept (writing 0 out (done (take (f + 1 - 0) (drop 0 x6)))) out out' r → Kept (writing 0 out (done (counts_line n))) out out' r
  unfolding counts_line
  counts_laid a b d e f x1 x2 x3 x4 x5 x6 out out' r p q s t u v w =
      let l : List ℕ = replicate 180 0 in
      let room : length l ≡ 180 = length-replicate {A = ℕ} 180 0 in
      let g2 = laid_then 0 33 a 34 b _ _ l x1 x2 p q (omega (arith, p.next, p.short)) in
      let g3 = laid_then 0 67 b 42 d _ _ l x2 x3 g2 s (omega (arith, g2.next, g2.short)) in
      let g4 = laid_then 0 109 d 33 e _ _ l x3 x4 g3 t (omega (arith, g3.next, g3.short)) in
      let g5 = laid_then 0 142 e 31 f _ _ l x4 x5 g4 u (omega (arith, g4.next, g4.short)) in
      let g6 = laid_then 0 173 f 1 (f + 1) _ _ l x5 x6 g5 (laid_one f 1 line_feed x5 x6 (f + 1) refl (omega arith) v) (omega (arith, g5.next, g5.short)) in
      laid_whole 174 (f + 1) _ l x6 out out' r (omega arith) g6 w
