-- The words of a refusal, as the code gives them. Assumes nothing.
use mathlib.Core.Path.{◌≡◌, ap, ◌∙◌}
use mathlib.Core.List.{List, ◌++◌}
use Prim.Native.Nat.{ℕ, ◌+◌, ◌*◌, ◌-◌, ◌≤◌}
use native.Mathlib.Omega.{arith}
use lib.ListN.{length, take, drop, replicate, length-replicate, length-take}
use Rattle.wire.specs.Answer.{Answer, done, Kept}
use Rattle.wire.specs.Ascii.{ascii}
use Rattle.wire.specs.Over.{over}
use Rattle.wire.specs.Writing.{writing}
use Rattle.digits.specs.Decimal.{line_feed}
use Rattle.digits.specs.Hex.{hex_of}
use Rattle.digits.specs.Private.{Laid}
use Rattle.digits.proofs.Hexes.{hex_length}
use Rattle.digits.proofs.Laying.{laid_then, laid_whole}
use Rattle.book.specs.Head.{read_head}
use Rattle.book.specs.Read.{id_of}
use Rattle.told.specs.Words.{stranger_line}

-- a promise for what is the same
pub written_as : (xs ys out out' : List ℕ) (r : Answer ℕ) → xs ≡ ys → Kept (writing 0 out (done ys)) out out' r → Kept (writing 0 out (done xs)) out out' r
written_as xs ys out out' r e w = rw e w

-- ---- two ids

-- an id has at most 8 bytes, whatever the bytes are
id_most : (c : List ℕ) → length (id_of c) ≤ 8
unfolding read_head
id_most c = rw (length-take 8 (drop 4 c)) (omega arith)

pub id_laid : (at : ℕ) (c id l x : List ℕ) → id ≡ id_of c → x ≡ over at (hex_of id) l → Laid at 16 (hex_of (id_of c)) l x (at + 2 * length id)
id_laid at c id l x e h =
    let n = hex_length (id_of c) in
    record { next = omega (arith, n, ap length e); short = omega (arith, n, id_most c); stands = h ∙ ap (λ (i : List ℕ). over at (hex_of i) l) e }

pub id_fits : (c id : List ℕ) → id ≡ id_of c → length id ≤ 8
id_fits c id e = omega (arith, ap length e, id_most c)

module _ (c d : List ℕ) where
  pub stranger_laid : (a b e f g : ℕ) (x1 x2 x3 x4 x5 out out' : List ℕ) (r : Answer ℕ) → Laid 0 41 (ascii "refused 12: the kept file is of document ") (replicate 128 0) x1 a
      → Laid a 16 (hex_of (id_of c)) x1 x2 b → Laid b 20 (ascii ", and this input of ") x2 x3 e → Laid e 16 (hex_of (id_of d)) x3 x4 f
      → Laid f 20 (ascii ": name another file" ++ line_feed) x4 x5 g
      → Kept (writing 0 out (done (take (g - 0) (drop 0 x5)))) out out' r → Kept (writing 0 out (done (stranger_line (id_of c) (id_of d)))) out out' r
  unfolding stranger_line
  stranger_laid a b e f g x1 x2 x3 x4 x5 out out' r p q s t u w =
      let l : List ℕ = replicate 128 0 in
      let room : length l ≡ 128 = length-replicate {A = ℕ} 128 0 in
      let g2 = laid_then 0 41 a 16 b _ _ l x1 x2 p q (omega (arith, p.next, p.short)) in
      let g3 = laid_then 0 57 b 20 e _ _ l x2 x3 g2 s (omega (arith, g2.next, g2.short)) in
      let g4 = laid_then 0 77 e 16 f _ _ l x3 x4 g3 t (omega (arith, g3.next, g3.short)) in
      let g5 = laid_then 0 93 f 20 g _ _ l x4 x5 g4 u (omega (arith, g4.next, g4.short)) in
      laid_whole 113 g _ l x5 out out' r (omega arith) g5 w
