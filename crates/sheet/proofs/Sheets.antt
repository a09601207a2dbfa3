-- The lines of all pages one after another, and what is answered. Assumes nothing.
use mathlib.Core.Path.{◌≡◌, refl, sym, ap, ◌∙◌}
use mathlib.Core.List.{List, [], ◌++◌}
use Prim.Native.Nat.{ℕ, ◌+◌, ◌-◌, ◌*◌, ◌≤◌, ◌<◌}
use native.Mathlib.Numerals.{add-one}
use native.Mathlib.Omega.{arith}
use borrow.Author.Tests.{lt-ltb, le-ltb}
use lib.Dec.{ltb}
use lib.ListN.{length, take, drop, replicate, length-replicate}
use Rattle.digits.specs.Private.{Laid}
use Rattle.wire.specs.Over.{over}
use Rattle.wire.specs.Answer.{Answer, done, refused, Kept, demand}
use Rattle.wire.specs.Writing.{Written, writing}
use Rattle.std.specs.Prelude.{Err}
use Rattle.wire.specs.Refusal.{number as told_number}
use Rattle.wire.specs.declared.Refusal.{Refusal}
use Rattle.wire.specs.declared.Refusal.TheVariants.{BadPlace}
use Rattle.wire.proofs.Overs.{over_none}
use Rattle.wire.proofs.Writes.{denied}
use Rattle.page.specs.Page.{page_count, count_of, joined}
use Rattle.page.proofs.Cutting.{counted_facts}
use Rattle.sheet.specs.Sheet.{id_line, place_line, scan_line, to_type, printed_lines, typed_lines, place_verdict}
use Rattle.sheet.specs.Private.{There, sheet_of, sheet_verdict}
use Rattle.sheet.proofs.Ids.{id_line_length}
use Rattle.digits.proofs.Laying.{laid_one, laid_then, laid_as, laid_part}

-- ---- the lines of one page

module _ (c : List ℕ) (size n : ℕ) (h : done n ≡ count_of (length c) size) where
  pub total_is : n ≡ page_count (length c) size
  total_is = (counted_facts (length c) size n h).3

  pub total_most : n ≤ 96
  total_most = (counted_facts (length c) size n h).4

  pub page_there : (k : ℕ) → k < n → There c size k
  page_there k l = record { counted = ap done (sym total_is) ∙ h; below = omega (arith, total_is) }

  module _ (k at : ℕ) (l : List ℕ) where
    pub scan_laid : (x : List ℕ) (r : ℕ) → Laid at 668 (scan_line c size k) l x r → Laid at 994 (scan_line c size k) l x r
    scan_laid x r p = laid_as at 668 994 r (scan_line c size k) (scan_line c size k) l x p refl (omega arith)

    pub typed_laid : (x y : List ℕ) (m r : ℕ) → at + 994 ≤ length l → Laid at 14 (place_line k n) l x m
        → Laid m 980 (printed_lines (to_type c size k)) x y r → Laid at 994 (typed_lines c size k) l y r
    unfolding typed_lines
    typed_laid x y m r room p q =
        let lines : List ℕ = printed_lines (to_type c size k) in
        laid_as at 994 994 r (place_line k n ++ lines) (typed_lines c size k) l y
        (laid_then at 14 m 980 r (place_line k n) lines l x y p q (omega (arith, p.next, p.short)))
        (ap (λ (i : ℕ). place_line k i ++ lines) total_is) (omega arith)

-- ---- the loop

-- the lines of the first k pages stand in x behind the id, and there is room for those of all
pub record Stacked (f : List ℕ → ℕ → ℕ → List ℕ) (c : List ℕ) (size n : ℕ) (l : List ℕ) (at k : ℕ) (x : List ℕ) : Type 0 where
  pub counted : done n ≡ count_of (length c) size
  pub room : 95441 ≤ length l
  pub most : k ≤ n
  pub whole : length x ≡ length l
  pub laid : Laid 17 (k * 994) (joined k (f c size)) l x at

module _ (f : List ℕ → ℕ → ℕ → List ℕ) (c : List ℕ) (size n : ℕ) (l : List ℕ) where
  pub stacked_none : done n ≡ count_of (length c) size → 95441 ≤ length l → Stacked f c size n l 17 0 l
  unfolding joined
  stacked_none h room = record { counted = h; room = room; most = omega arith; whole = refl; laid = laid_one 17 0 [] l l 17 refl (omega arith) (sym (over_none 17 l)) }

  module _ (k at : ℕ) (x : List ℕ) (g : Stacked f c size n l at k x) where
    top : n ≤ 96
    top = total_most c size n g.counted

    behind : at ≤ 17 + k * 994
    behind = omega (arith, g.laid.next, g.laid.short)

    pub stacked_room : k < n → at + 994 ≤ length x
    stacked_room h = omega (arith, top, behind, g.room, g.whole)

    pub stacked_on : (r : ℕ) (y : List ℕ) → k < n → length y ≡ length x → Laid at 994 (f c size k) x y r → Stacked f c size n l r (k + 1) y
    unfolding joined
    stacked_on r y h s p =
        record {
          counted = g.counted;
          room = g.room;
          most = omega arith;
          whole = s ∙ g.whole;
          laid = laid_as 17 (k * 994 + 994) ((k + 1) * 994) r (joined k (f c size) ++ f c size k) (joined (k + 1) (f c size)) l y
              (laid_then 17 (k * 994) at 994 r (joined k (f c size)) (f c size k) l x y g.laid p (omega (arith, g.whole, stacked_room h))) (rw (add-one k)) (omega arith);
        }

    pub stacked_end : (l₀ : List ℕ) → 95441 ≤ length l₀ → l ≡ over 0 (id_line c) l₀ → n ≤ k → Laid 0 95441 (sheet_of f c size) l₀ x at
    unfolding sheet_of
    stacked_end l₀ room i o =
        let e : k ≡ page_count (length c) size = omega (arith, g.most, total_is c size n g.counted) in
        let m : k ≤ 96 = omega (arith, g.most, top) in
        let d = id_line_length c in
        let first = laid_one 0 17 (id_line c) l₀ l 17 (omega arith) (omega arith) i in
        laid_as 0 (17 + k * 994) 95441 at (id_line c ++ joined k (f c size)) (id_line c ++ joined (page_count (length c) size) (f c size)) l₀ x
        (laid_then 0 17 17 (k * 994) at (id_line c) (joined k (f c size)) l₀ l x first g.laid (omega arith))
        (ap (λ (i : ℕ). id_line c ++ joined i (f c size)) e) (omega arith)

-- what was laid in front is what is given
pub given_from : (m n : ℕ) (bs l x out out' : List ℕ) (r : Answer ℕ) → m ≤ length l → Laid 0 m bs l x n → Kept (writing 0 out (done (take (n - 0) (drop 0 x)))) out out' r
    → Kept (writing 0 out (done bs)) out out' r
given_from m n bs l x out out' r room p w = rw (laid_part m n bs l x room p) at w

pub given : (m n : ℕ) (bs x out out' : List ℕ) (r : Answer ℕ) → Laid 0 m bs (replicate m 0) x n → Kept (writing 0 out (done (take (n - 0) (drop 0 x)))) out out' r
    → Kept (writing 0 out (done bs)) out out' r
given m n bs x out out' r = given_from m n bs (replicate m 0) x out out' r (omega (arith, length-replicate {A = ℕ} m 0))

-- ---- the answers

module _ (c : List ℕ) (size n : ℕ) (h : done n ≡ count_of (length c) size) (out out' : List ℕ) (r : Answer ℕ) where
  pub all_printed : (f : List ℕ → ℕ → ℕ → List ℕ) → Kept (writing 0 out (done (sheet_of f c size))) out out' r → Kept (writing 0 out (sheet_verdict f c size)) out out' r
  unfolding sheet_verdict
  all_printed f w = rw (← h) w

  pub one_printed : (k : ℕ) → Kept (writing 0 out (demand (ltb k n) 8 (done (typed_lines c size k)))) out out' r → Kept (writing 0 out (place_verdict c size k)) out out' r
  unfolding place_verdict
  one_printed k w = rw (← h) w

module _ (c : List ℕ) (size n k : ℕ) where
  pub one_there : (out out' : List ℕ) (r : Answer ℕ) → k < n → Kept (writing 0 out (done (typed_lines c size k))) out out' r → Kept (writing 0 out (demand (ltb k n) 8 (done (typed_lines c size k)))) out out' r
  one_there out out' r l w = rw (lt-ltb k n l) w

  pub one_past : (out : List ℕ) → n ≤ k → Written 0 (demand (ltb k n) 8 (done (typed_lines c size k))) out out (Err BadPlace)
  one_past out l = rw (le-ltb k n l) (denied 0 out BadPlace)

module _ (c : List ℕ) (size : ℕ) (e : Refusal) (h : refused (told_number e) ≡ count_of (length c) size) (out : List ℕ) where
  pub none_printed : (f : List ℕ → ℕ → ℕ → List ℕ) → Written 0 (sheet_verdict f c size) out out (Err e)
  unfolding sheet_verdict
  none_printed f = rw (← h) (denied 0 out e)

  pub no_one_printed : (k : ℕ) → Written 0 (place_verdict c size k) out out (Err e)
  unfolding place_verdict
  no_one_printed k = rw (← h) (denied 0 out e)
