-- Each line of a sheet is one line. Assumes nothing.
use mathlib.Core.Path.{◌≡◌, refl, sym, ap, ◌∙◌}
use mathlib.Core.Bool.{Bool, true, false}
use mathlib.Core.List.{List, [], ◌∷◌, ◌++◌, map}
use Prim.Native.Nat.{ℕ, zero, suc, ◌+◌, ◌*◌, ◌/◌, ◌%◌, ◌^◌, ◌<◌}
use lib.Pow.{pow_pos}
use native.Mathlib.Omega.{arith}
use borrow.Author.Tests.{ltb-false}
use lib.Dec.{ltb, eqb}
use lib.ListN.{length, get_or}
use Rattle.wire.specs.Answer.{choose}
use Rattle.wire.specs.Number.{Digits, digits, number}
use Rattle.wire.proofs.Digits.{digits_small}
use Rattle.digits.specs.Decimal.{digit, decimal, last_digits, numeral}
use Rattle.digits.specs.Hex.{hex_digit, hex_of}
use Rattle.text.specs.Text.{Form, skipped, letter, characters, filling, text_of}
use Rattle.text.proofs.Forms.{Lawful}
use Rattle.sheet.specs.Sheet.{page_word, of_word}
use Rattle.sheet.specs.Words.{too_large, were_given, pages_of, bytes_hold, split_it, nothing_read, no_such_page, not_printed, given_words, large_words, reason_words}

-- ---- no line feed inside a line

abbrev pub Single : List ℕ → Type 0
Single bs = (i : ℕ) → get_or bs i 0 ≡ 10 → ⊥

one_none : Single []
one_none i e = omega (arith, e)

one_cons : (b : ℕ) (bs : List ℕ) → (b ≡ 10 → ⊥) → Single bs → Single (b ∷ bs)
one_cons b bs h t zero e = h e
one_cons b bs h t (suc i) e = t i e

one_append : (xs ys : List ℕ) → Single xs → Single ys → Single (xs ++ ys)
one_append [] ys x y i e = y i e
one_append (b ∷ xs) ys x y zero e = x 0 e
one_append (b ∷ xs) ys x y (suc i) e = one_append xs ys (λ (j : ℕ). x (suc j)) y i e

-- the characters of a text
module _ (f : Form) (law : Lawful f) where
  feed_skipped : skipped f 10 ≡ true
  unfolding skipped
  feed_skipped = refl

  letter_no_feed : (v : ℕ) → v < 2 ^ f.width → letter f v ≡ 10 → ⊥
  letter_no_feed v h e =
      let p : skipped f 10 ≡ false = ap (skipped f) (sym e) ∙ law.plain v h in
      let q : true ≡ false = sym feed_skipped ∙ p in
      let z : ◌≡◌ {A = ℕ} 0 1 = cc in omega arith

  letters_one : (vs : List ℕ) → Digits (2 ^ f.width) vs → Single (map (letter f) vs)
  letters_one [] all = one_none
  letters_one (v ∷ vs) all = one_cons (letter f v) (map (letter f) vs) (letter_no_feed v (all 0)) (letters_one vs (λ i. all (suc i)))

  -- For the reader: no text of a code square has a line feed inside; for the lines to type it is
  -- `to_type_letters` (Typing)
  pub text_one : (bs : List ℕ) → Single (text_of f bs)
  unfolding text_of
  text_one bs =
      letters_one (digits (2 ^ f.width) (characters f (length bs)) (number 256 bs * 2 ^ filling f (length bs)))
      (digits_small (2 ^ f.width) (characters f (length bs)) (number 256 bs * 2 ^ filling f (length bs)) (pow_pos f.width))

-- the digits of the id
hex_no_feed : (d : ℕ) → hex_digit d ≡ 10 → ⊥
unfolding hex_digit
hex_no_feed d e = go (ltb d 10) e
  where
    go : (t : Bool) → choose t (0x30 + d) (0x57 + d) ≡ 10 → ⊥
    go true q = omega (arith, q)
    go false q = omega (arith, q)

-- For the reader: nor has the id
pub hex_one : (bs : List ℕ) → Single (hex_of bs)
unfolding hex_of
hex_one [] = one_none
hex_one (b ∷ bs) =
    one_cons (hex_digit (b / 16)) (hex_digit (b % 16) ∷ hex_of bs) (hex_no_feed (b / 16)) (one_cons (hex_digit (b % 16)) (hex_of bs) (hex_no_feed (b % 16)) (hex_one bs))

-- a number, and the line of a place in front of its line feed
digit_one : (d : ℕ) (bs : List ℕ) → Single bs → Single (digit d ∷ bs)
digit_one d bs t = one_cons (digit d) bs (λ e. omega (arith, e)) t

decimal_one_line : (n : ℕ) → Single (decimal n)
unfolding decimal
decimal_one_line n = go (ltb n 10) (ltb n 100)
  where
    go : (v w : Bool) → Single (choose v (digit n ∷ []) (choose w (digit (n / 10) ∷ digit (n % 10) ∷ []) (digit (n / 100) ∷ digit (n / 10 % 10) ∷ digit (n % 10) ∷ [])))
    go true w = digit_one n [] one_none
    go false true = digit_one (n / 10) (digit (n % 10) ∷ []) (digit_one (n % 10) [] one_none)
    go false false = digit_one (n / 100) (digit (n / 10 % 10) ∷ digit (n % 10) ∷ []) (digit_one (n / 10 % 10) (digit (n % 10) ∷ []) (digit_one (n % 10) [] one_none))

-- above the control characters
abbrev clear : List ℕ → Bool
clear [] = true
clear (b ∷ bs) = choose (ltb b 32) false (clear bs)

clear_one : (bs : List ℕ) → clear bs ≡ true → Single bs
clear_one [] h = one_none
clear_one (b ∷ bs) h = go (ltb b 32) refl h (clear_one bs)
  where
    go : (t : Bool) → ltb b 32 ≡ t → choose t false (clear bs) ≡ true → (clear bs ≡ true → Single bs) → Single (b ∷ bs)
    go true e q rest = let z : ◌≡◌ {A = ℕ} 0 1 = cc in absurd (omega arith)
    go false e q rest = one_cons b bs (λ p. omega (arith, p, ltb-false b 32 e)) (rest q)

-- For the reader: nor the place of a page
pub place_one : (k n : ℕ) → Single (page_word ++ decimal k ++ of_word ++ decimal n)
place_one k n =
    one_append (page_word ++ decimal k ++ of_word) (decimal n)
    (one_append (page_word ++ decimal k) of_word (one_append page_word (decimal k) (clear_one page_word refl) (decimal_one_line k)) (clear_one of_word refl)) (decimal_one_line n)

-- ---- nor the words beside a refusal

last_one_line : (k n : ℕ) → Single (last_digits k n)
unfolding last_digits
last_one_line zero n = one_none
last_one_line (suc k) n = go (ltb n 10) (last_one_line k (n / 10))
  where
    go : (t : Bool) → Single (last_digits k (n / 10)) → Single (choose t (digit n ∷ []) (last_digits k (n / 10) ++ (digit (n % 10) ∷ [])))
    go true rest = digit_one n [] one_none
    go false rest = one_append (last_digits k (n / 10)) (digit (n % 10) ∷ []) rest (digit_one (n % 10) [] one_none)

numeral_one_line : (n : ℕ) → Single (numeral n)
unfolding numeral
numeral_one_line n = last_one_line 20 n

either_one : (t : Bool) (xs ys : List ℕ) → Single xs → Single ys → Single (choose t xs ys)
either_one true xs ys x y = x
either_one false xs ys x y = y

given_one : (given : ℕ) → Single (given_words given)
unfolding given_words
given_one given = either_one (eqb given 0) [] (numeral given ++ were_given) one_none (one_append (numeral given) were_given (numeral_one_line given) (clear_one were_given refl))

large_one : (size given : ℕ) → Single (large_words size given)
unfolding large_words
large_one size given =
    let t1 = too_large ++ given_words given in
    let t2 = t1 ++ pages_of in
    let t3 = t2 ++ numeral size in
    let t4 = t3 ++ bytes_hold in
    let o1 = one_append too_large (given_words given) (clear_one too_large refl) (given_one given) in
    let o2 = one_append t1 pages_of o1 (clear_one pages_of refl) in
    let o3 = one_append t2 (numeral size) o2 (numeral_one_line size) in
    let o4 = one_append t3 bytes_hold o3 (clear_one bytes_hold refl) in
    one_append (t4 ++ numeral (size * 96)) split_it (one_append t4 (numeral (size * 96)) o4 (numeral_one_line (size * 96))) (clear_one split_it refl)

-- For the reader: what `press` says of a refusal has one line feed, at its end
pub reason_one : (n size given : ℕ) → Single (reason_words n size given)
unfolding reason_words
reason_one n size given =
    let last = choose (eqb n 8) no_such_page not_printed in
    let rest = choose (eqb n 9) (large_words size given) last in
    either_one (eqb n 19) nothing_read rest (clear_one nothing_read refl) (either_one (eqb n 9) (large_words size given) last (large_one size given) (either_one (eqb n 8) no_such_page not_printed (clear_one no_such_page refl) (clear_one not_printed refl)))
