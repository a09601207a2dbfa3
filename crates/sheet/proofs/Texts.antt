-- What is made of a page that there is: its frame, the text of its square, and its typed lines.
-- With enough room none of them is refused. Assumes nothing.
use mathlib.Core.Path.{◌≡◌, refl, sym, ap, ◌∙◌}
use mathlib.Core.Logic.{⊎_elim}
use mathlib.Core.List.{List}
use Prim.Native.Nat.{ℕ, ◌+◌, ◌-◌, ◌*◌, ◌^◌, ◌≤◌}
use native.Mathlib.Omega.{arith}
use borrow.Author.Tests.{le-leb}
use lib.ListN.{length, take, drop, replicate, length-map, length-replicate}
use Rattle.std.specs.Prelude.{Result, Ok, Err, IsOk}
use Rattle.digits.specs.Private.{Laid}
use Rattle.wire.specs.Number.{digits, number}
use Rattle.wire.specs.Over.{over}
use Rattle.wire.specs.Answer.{done}
use Rattle.wire.specs.Writing.{Written}
use Rattle.wire.specs.Refusal.{number as told_number}
use Rattle.wire.specs.declared.Refusal.{Refusal}
use Rattle.wire.proofs.Digits.{length_digits}
use Rattle.wire.proofs.Cases.{done_value}
use Rattle.wire.proofs.Writes.{done_stood, refused_why}
use Rattle.digits.specs.Decimal.{line_feed}
use Rattle.digits.proofs.Laying.{laid_one, laid_then, laid_part}
use Rattle.text.specs.Text.{Form, base64, letter, characters, filling, text_of}
use Rattle.text.proofs.Forms.{base64_lawful}
use Rattle.text.proofs.Counts.{filled, filling_lt}
use Rattle.typed.specs.Typed.{typed_of, write_typed}
use Rattle.typed.proofs.Round.{typed_short}
use Rattle.page.specs.Page.{page_count, page_frame, page_verdict, typed}
use Rattle.page.proofs.Cutting.{page_is}
use Rattle.page.proofs.Typing.{frame_short}
use Rattle.sheet.specs.Sheet.{scan_line}
use Rattle.sheet.specs.Private.{There}

-- ---- a writer that had room enough

module _ (m : ℕ) (here x y : List ℕ) (short : length here ≤ m) (room : m ≤ length x) where
  -- it is not refused
  fits : (r : Result ℕ Refusal) → Written 0 (done here) x y r → IsOk r
  fits (Ok n) w = refl
  fits (Err e) w =
      ⊎_elim (λ o. let z : ◌≡◌ {A = ℕ} 0 1 = cc in absurd (omega arith))
      (λ o. absurd (omega (arith, o.2, ap length (done_value o.1))))
      (refused_why 0 (done here) x y (told_number e) 0 w)

  -- it stands in front
  front : (r : Result ℕ Refusal) (n : ℕ) → Written 0 (done here) x y r → r ≡ Ok n → Laid 0 m here x y n
  front r n w q =
      let s = done_stood 0 (done here) x y n (rw q at w) in
      let e : s.what ≡ here = done_value (sym s.meant) in
      record { next = omega (arith, s.count, ap length e); short = short; stands = s.stands ∙ ap (λ (b : List ℕ). over 0 b x) e }

-- ---- how long a text is

pub text_length : (f : Form) (bs : List ℕ) → length (text_of f bs) ≡ characters f (length bs)
unfolding text_of
text_length f bs =
    length-map (digits (2 ^ f.width) (characters f (length bs)) (number 256 bs * 2 ^ filling f (length bs))) (letter f)
    ∙ length_digits (2 ^ f.width) (characters f (length bs)) (number 256 bs * 2 ^ filling f (length bs))

-- ---- a page that there is

module _ (c : List ℕ) (size k : ℕ) (t : There c size k) where
  frame_there : page_verdict c size k ≡ done (page_frame c size k)
  unfolding page_frame
  frame_there = page_is c size k (page_count (length c) size) t.counted t.below

  pub page_short : length (page_frame c size k) ≤ 500
  page_short = frame_short c size k (page_frame c size k) frame_there

  -- so never above the 1,024 bytes that `pier` reads
  pub square_short : length (text_of base64 (page_frame c size k)) ≤ 667
  unfolding base64
  square_short =
      let n : ℕ = length (page_frame c size k) in
      rw (text_length base64 (page_frame c size k)) (omega (arith, page_short, filled base64 base64_lawful n, filling_lt base64 base64_lawful n))

  module _ (x y : List ℕ) (r : Result ℕ Refusal) where
    module _ (room : 500 ≤ length x) (w : Written 0 (page_verdict c size k) x y r) where
      pub frame_fits : IsOk r
      frame_fits = fits 500 (page_frame c size k) x y page_short room r (rw frame_there at w)

      pub frame_laid : (n : ℕ) → r ≡ Ok n → Laid 0 500 (page_frame c size k) x y n
      frame_laid n = front 500 (page_frame c size k) x y page_short room r n (rw frame_there at w)

    module _ (room : 667 ≤ length x) (w : Written 0 (typed base64 (page_verdict c size k)) x y r) where
      pub square_fits : IsOk r
      square_fits = fits 667 (text_of base64 (page_frame c size k)) x y square_short room r (rw frame_there at w)

      pub square_laid : (n : ℕ) → r ≡ Ok n → Laid 0 667 (text_of base64 (page_frame c size k)) x y n
      square_laid n = front 667 (text_of base64 (page_frame c size k)) x y square_short room r n (rw frame_there at w)

-- where z holds the frame in front, what is spelt of it is the page's
pub lines_laid : (c : List ℕ) (size k m n : ℕ) (z x y : List ℕ) → Laid 0 500 (page_frame c size k) (replicate 500 0) z m
    → Laid 0 859 (typed_of (take (m - 0) (drop 0 z))) x y n → Laid 0 859 (typed_of (page_frame c size k)) x y n
lines_laid c size k m n z x y p q = rw (laid_part 500 m (page_frame c size k) (replicate 500 0) z (omega (arith, length-replicate {A = ℕ} 500 0)) p) at q

-- ---- bytes that can be typed

module _ (bs x y : List ℕ) (h : length bs ≤ 500) (room : 859 ≤ length x) (r : Result ℕ Refusal) (w : Written 0 (write_typed bs) x y r) where
  spelt_is : write_typed bs ≡ done (typed_of bs)
  unfolding write_typed
  spelt_is = rw (le-leb (length bs) 500 h)

  pub spelt_fits : IsOk r
  spelt_fits = fits 859 (typed_of bs) x y (typed_short bs h) room r (rw spelt_is at w)

  pub spelt_laid : (n : ℕ) → r ≡ Ok n → Laid 0 859 (typed_of bs) x y n
  spelt_laid n = front 859 (typed_of bs) x y (typed_short bs h) room r n (rw spelt_is at w)

-- the text of a square, with its line feed, is the line
pub line_laid : (c : List ℕ) (size k n at : ℕ) (y l u v : List ℕ) → v ≡ over (at + n) line_feed u → u ≡ over at (take (n - 0) (drop 0 y)) l
    → Laid 0 667 (text_of base64 (page_frame c size k)) (replicate 667 0) y n → at + 668 ≤ length l → Laid at 668 (scan_line c size k) l v (at + n + 1)
unfolding scan_line
line_laid c size k n at y l u v b a p fits =
    let text : List ℕ = text_of base64 (page_frame c size k) in
    laid_then at 667 (at + n) 1 (at + n + 1) text line_feed l u v
    (laid_one at 667 text l u (at + n) (omega (arith, p.next)) p.short (a ∙ rw (laid_part 667 n text (replicate 667 0) y (omega (arith, length-replicate {A = ℕ} 667 0)) p)))
    (laid_one (at + n) 1 line_feed u v (at + n + 1) refl (omega arith) b) (omega (arith, p.next, p.short))
