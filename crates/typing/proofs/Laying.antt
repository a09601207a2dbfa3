-- A scan and the words of a fault, laid one after another. Assumes nothing.
use Prim.Native.Nat.{ℕ, ◌+◌, ◌*◌, ◌^◌, ◌≤◌, ◌<◌}
use mathlib.Core.Path.{◌≡◌, refl, sym, ap, ◌∙◌}
use mathlib.Core.Logic.{⊎_elim}
use mathlib.Core.Bool.{Bool, true, false}
use mathlib.Core.List.{List, [], ◌++◌}
use native.Mathlib.Nat.{sub-zero}
use native.Mathlib.Omega.{arith}
use borrow.Author.Tests.{lt-ltb, le-ltb}
use lib.ListN.{length, take, replicate, length-map, length-replicate}
use Rattle.digits.specs.Private.{Laid}
use Rattle.digits.specs.Decimal.{decimal, numeral, line_feed}
use Rattle.digits.proofs.Laying.{laid_one, laid_then, laid_as, laid_whole}
use Rattle.wire.specs.Ascii.{ascii}
use Rattle.wire.specs.Answer.{Answer, done, Kept}
use Rattle.wire.specs.Over.{over}
use Rattle.wire.specs.Number.{digits, number}
use Rattle.wire.specs.Writing.{Written, writing}
use Rattle.std.specs.Prelude.{Result, Ok, Err}
use Rattle.wire.specs.Refusal as R
use Rattle.wire.specs.declared.Refusal.{Refusal}
use Rattle.wire.proofs.Cases.{done_value}
use Rattle.wire.proofs.Digits.{length_digits}
use Rattle.wire.proofs.Overs.{over_none}
use Rattle.wire.proofs.Writes.{done_stood, refused_why}
use Rattle.text.specs.Text.{base64, letter, characters, filling, text_of}
use Rattle.text.proofs.Forms.{base64_lawful}
use Rattle.text.proofs.Counts.{filled, filling_lt}
use Rattle.typing.specs.Words.{of_line, count_words, belong_words, fault_words}
use Rattle.typing.specs.declared.Fault.{Fault}
use Rattle.typing.specs.declared.Fault.TheVariants.{Good, Nothing, Letter, Count, Surplus, Mistyped, Whole}

-- another write behind the first, where there is room for both
laid_on : {at m n k r : ℕ} {xs bs l x y : List ℕ} → at + (m + k) ≤ length l → Laid at m xs l x n → Laid n k bs x y r → Laid at (m + k) (xs ++ bs) l y r
laid_on {at} {m} {n} {k} {r} {xs} {bs} {l} {x} {y} h p q = laid_then at m n k r xs bs l x y p q (omega (arith, p.next, p.short))

-- ---- the words

module _ (l x y : List ℕ) (n r : ℕ) where
  pub line_laid : (number a : ℕ) (w x2 : List ℕ) → 25 + length w ≤ length l → Laid 0 5 (ascii "line ") l x n
      → (a ≡ length (numeral number)) × (a ≤ 20) × (x2 ≡ over n (numeral number) x) → Laid (n + a) (length w) w x2 y r
      → Laid 0 (25 + length w) (of_line number w) l y r
  unfolding of_line
  line_laid number a w x2 room p (e, s, o) q =
      let d = laid_one n 20 (numeral number) x x2 (n + a) (omega arith) (omega arith) o in
      laid_as 0 (5 + 20 + length w) (25 + length w) r _ _ l y
      (laid_on {at = 0} {m = 5 + 20} {k = length w} (omega arith) (laid_on {at = 0} {m = 5} {k = 20} (omega arith) p d) q) refl (omega arith)

  pub whole_laid : (e a : ℕ) (x2 : List ℕ) → 95 ≤ length l → Laid 0 39 (ascii "these lines are no good frame: refused ") l x n
      → (a ≡ length (decimal e)) × (a ≤ 3) × (x2 ≡ over n (decimal e) x)
      → Laid (n + a) 53 (ascii ": see that all lines of one page are there, in order" ++ line_feed) x2 y r → Laid 0 95 (fault_words (Whole e)) l y r
  unfolding fault_words
  whole_laid e a x2 room p (q, s, o) t =
      let d = laid_one n 3 (decimal e) x x2 (n + a) (omega arith) (omega arith) o in
      laid_on {at = 0} {m = 42} {k = 53} (omega arith) (laid_on {at = 0} {m = 39} {k = 3} (omega arith) p d) t

  pub count_laid : (line count : ℕ) (last : Bool) (a : ℕ) (x2 : List ℕ) → 101 ≤ length l → Laid 0 51 (of_line line (count_words count)) l x n
      → (a ≡ length (numeral count)) × (a ≤ 20) × (x2 ≡ over n (numeral count) x) → Laid (n + a) 30 (belong_words count last ++ line_feed) x2 y r
      → Laid 0 101 (fault_words (Count line count last)) l y r
  unfolding fault_words
  count_laid line count last a x2 room p (q, s, o) t =
      let d = laid_one n 20 (numeral count) x x2 (n + a) (omega arith) (omega arith) o in
      laid_on {at = 0} {m = 71} {k = 30} (omega arith) (laid_on {at = 0} {m = 51} {k = 20} (omega arith) p d) t

-- too few, or too many

module _ (l x : List ℕ) (line count r : ℕ) where
  pub few_laid : count < 42 → Laid 0 50 (of_line line (ascii " has too few characters: ")) l x r → Laid 0 51 (of_line line (count_words count)) l x r
  unfolding count_words
  few_laid h p = rw (lt-ltb count 42 h) (laid_as 0 50 51 r _ _ l x p refl (omega arith))

  pub many_laid : 42 ≤ count → Laid 0 51 (of_line line (ascii " has too many characters: ")) l x r → Laid 0 51 (of_line line (count_words count)) l x r
  unfolding count_words
  many_laid h p = rw (le-ltb count 42 h) p

module _ (at count r : ℕ) (last : Bool) (l x : List ℕ) where
  pub full_belong : last ≡ false → Laid at 22 (ascii ", and 42 belong there" ++ line_feed) l x r → Laid at 30 (belong_words count last ++ line_feed) l x r
  unfolding belong_words
  full_belong e p = rw e (laid_as at 22 30 r _ _ l x p refl (omega arith))

  module _ (e : last ≡ true) where
    pub least_belong : count < 42 → Laid at 30 (ascii ", and at least 3 belong there" ++ line_feed) l x r → Laid at 30 (belong_words count last ++ line_feed) l x r
    unfolding belong_words
    least_belong h p = rw (e, lt-ltb count 42 h) p

    pub most_belong : 42 ≤ count → Laid at 30 (ascii ", and at most 42 belong there" ++ line_feed) l x r → Laid at 30 (belong_words count last ++ line_feed) l x r
    unfolding belong_words
    most_belong h p = rw (e, le-ltb count 42 h) p

-- the sentence of each fault

module _ (f : Fault) (l x : List ℕ) (r : ℕ) where
  pub good_told : f ≡ Good → Laid 0 160 (fault_words f) l l 0
  unfolding fault_words
  good_told e = rw e (laid_one 0 160 [] l l 0 (omega arith) (omega arith) (sym (over_none 0 l)))

  pub nothing_told : f ≡ Nothing → Laid 0 78 (ascii "no line was given: type the lines of one page, or give them on standard input" ++ line_feed) l x r → Laid 0 160 (fault_words f) l x r
  unfolding fault_words
  nothing_told e p = rw e (laid_as 0 78 160 r _ _ l x p refl (omega arith))

  pub surplus_told : f ≡ Surplus → Laid 0 47 (ascii "line 21 is one too many: a page has at most 20" ++ line_feed) l x r → Laid 0 160 (fault_words f) l x r
  unfolding fault_words
  surplus_told e p = rw e (laid_as 0 47 160 r _ _ l x p refl (omega arith))

  pub letter_told : (line : ℕ) → f ≡ Letter line
      → Laid 0 134 (of_line line (ascii " has a character that is not in the alphabet, which has no capitals, no l, v, 0 or 2, and no carriage return" ++ line_feed)) l x r
      → Laid 0 160 (fault_words f) l x r
  unfolding fault_words
  letter_told line e p = rw e (laid_as 0 134 160 r _ _ l x p refl (omega arith))

  pub mistyped_told : (line : ℕ) → f ≡ Mistyped line → Laid 0 39 (of_line line (ascii " was mistyped" ++ line_feed)) l x r → Laid 0 160 (fault_words f) l x r
  unfolding fault_words
  mistyped_told line e p = rw e (laid_as 0 39 160 r _ _ l x p refl (omega arith))

  pub count_told : (line count : ℕ) (last : Bool) → f ≡ Count line count last → Laid 0 101 (fault_words (Count line count last)) l x r → Laid 0 160 (fault_words f) l x r
  count_told line count last e p = rw e (laid_as 0 101 160 r _ _ l x p refl (omega arith))

  pub whole_told : (k : ℕ) → f ≡ Whole k → Laid 0 95 (fault_words (Whole k)) l x r → Laid 0 160 (fault_words f) l x r
  whole_told k e p = rw e (laid_as 0 95 160 r _ _ l x p refl (omega arith))

pub words_given : (f : Fault) (n : ℕ) (x out out' : List ℕ) (r : Answer ℕ) → Laid 0 160 (fault_words f) (replicate 160 0) x n
    → Kept (writing 0 out (done (take n x))) out out' r → Kept (writing 0 out (done (fault_words f))) out out' r
words_given f n x out out' r p w = laid_whole 160 n (fault_words f) (replicate 160 0) x out out' r (omega (arith, length-replicate {A = ℕ} 160 0)) p (rw (sub-zero n) w)

-- ---- the scan

text_most : (bs : List ℕ) → length bs ≤ 800 → length (text_of base64 bs) ≤ 1067
unfolding text_of base64
text_most bs h =
    let n : ℕ = length bs in
    let c : ℕ = characters base64 n in
    let e : length (text_of base64 bs) ≡ c = length-map (digits 64 c (number 256 bs * 2 ^ filling base64 n)) (letter base64) ∙ length_digits 64 c (number 256 bs * 2 ^ filling base64 n) in
    omega (arith, e, filled base64 base64_lawful n, filling_lt base64 base64_lawful n)

module _ (bs x y : List ℕ) (short : length bs ≤ 800) (room : 1068 ≤ length x) (w : Result ℕ Refusal) (k : Written 0 (done (text_of base64 bs)) x y w) where
  -- it is not refused
  pub text_never : (e : Refusal) → w ≡ Err e → Laid 0 1067 (text_of base64 bs) x y 0
  text_never e q =
      ⊎_elim (λ o. let z : ◌≡◌ {A = ℕ} 0 1 = cc in absurd (omega arith))
      (λ o. absurd (omega (arith, o.2, ap length (done_value o.1), text_most bs short)))
      (refused_why 0 (done (text_of base64 bs)) x y (R.number e) 0 (rw q at k))

  pub text_laid : (n : ℕ) → w ≡ Ok n → Laid 0 1067 (text_of base64 bs) x y n
  text_laid n q =
      let s = done_stood 0 (done (text_of base64 bs)) x y n (rw q at k) in
      let e : s.what ≡ text_of base64 bs = sym (done_value s.meant) in
      laid_one 0 1067 (text_of base64 bs) x y n (omega (arith, s.count, ap length e)) (text_most bs short) (s.stands ∙ ap (λ (b : List ℕ). over 0 b x) e)

pub scan_laid : (bs x y z : List ℕ) (n : ℕ) → 1068 ≤ length x → Laid 0 1067 (text_of base64 bs) x y n → z ≡ over n line_feed y
    → Laid 0 1068 (text_of base64 bs ++ line_feed) x z (n + 1)
scan_laid bs x y z n room p o = laid_on {at = 0} {m = 1067} {k = 1} room p (laid_one n 1 line_feed y z (n + 1) refl (omega arith) o)
