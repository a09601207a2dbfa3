-- The lines to type of a page: there is one at least, they have characters of the alphabet alone,
-- and what `typed` writes is laid out as them in groups. Assumes nothing.
use Prim.Native.Nat.{ℕ, suc, ◌+◌, ◌-◌, ◌≤◌}
use mathlib.Core.Path.{◌≡◌, refl, sym, ap, ◌∙◌}
use mathlib.Core.Bool.{true}
use mathlib.Core.List.{List, [], ◌∷◌}
use native.Mathlib.Omega.{arith}
use lib.ListN.{length, take, drop, replicate, length-append, length-replicate}
use Rattle.wire.specs.Every.{every}
use Rattle.digits.specs.Private.{Laid}
use Rattle.digits.proofs.Laying.{laid_as, laid_part}
use Rattle.text.specs.Text.{zbase32, text_of}
use Rattle.text.proofs.Forms.{zbase32_lawful}
use Rattle.text.proofs.Counts.{filled}
use Rattle.typed.specs.Typed.{most_lines, full_data, is_letter, check_letters, rows, with_check, numbered, fed, parted, typed_of}
use Rattle.typed.proofs.Rows.{lines_letters}
use Rattle.typed.proofs.Round.{text_letters}
use Rattle.page.specs.Page.{page_frame}
use Rattle.page.proofs.Typing.{frame_some}
use Rattle.sheet.specs.Sheet.{to_type_of, to_type, printed_lines}
use Rattle.sheet.specs.Private.{spread}
use Rattle.sheet.proofs.Texts.{text_length}
use Rattle.sheet.proofs.Groups.{spread_lines, printed_short}

first_line_lem : (k n : ℕ) (cs : List ℕ) → 1 ≤ length cs → numbered n (rows (suc k) cs) ≡ with_check n (take full_data cs) ∷ numbered (suc n) (rows k (drop full_data cs))
unfolding rows numbered
first_line_lem k n [] h = absurd (omega arith)
first_line_lem k n (c ∷ cs) h = refl

-- of any bytes

module _ (bs : List ℕ) (some : 1 ≤ length bs) where
  abbrev characters : List ℕ
  characters = text_of zbase32 bs

  characters_some : 1 ≤ length characters
  unfolding zbase32
  characters_some = omega (arith, text_length zbase32 bs, filled zbase32 zbase32_lawful (length bs), some)

  -- there is one at least
  lines_some : to_type_of bs ≡ with_check 1 (take full_data characters) ∷ numbered 2 (rows 19 (drop full_data characters))
  lines_some = first_line_lem 19 1 characters characters_some

  -- what `typed` writes, with the spaces between groups
  pub typed_spread : spread 0 (typed_of bs) ≡ printed_lines (to_type_of bs)
  unfolding typed_of
  typed_spread =
      ap (λ (ls : List (List ℕ)). spread 0 (parted ls)) lines_some
      ∙ spread_lines _ _ (ap (every (every is_letter)) (sym lines_some) ∙ lines_letters most_lines 1 characters (text_letters bs))
      ∙ ap printed_lines (sym lines_some)

pub groups_short : (bs : List ℕ) → length (printed_lines (to_type_of bs)) ≤ 980
groups_short bs = printed_short 20 1 (text_of zbase32 bs)

-- of a page

module _ (c : List ℕ) (size k : ℕ) where
  abbrev letters : List ℕ
  letters = text_of zbase32 (page_frame c size k)

  abbrev pub first : List ℕ
  first = with_check 1 (take full_data letters)

  abbrev pub others : List (List ℕ)
  others = numbered 2 (rows 19 (drop full_data letters))

  -- there is one at least
  pub lines_are : to_type c size k ≡ first ∷ others
  unfolding to_type
  lines_are = lines_some (page_frame c size k) (frame_some c size k)

  -- For the reader: they have characters of the alphabet alone
  pub to_type_letters : every (every is_letter) (to_type c size k) ≡ true
  unfolding to_type
  to_type_letters = lines_letters most_lines 1 letters (text_letters (page_frame c size k))

  pub typed_are : typed_of (page_frame c size k) ≡ parted (first ∷ others)
  unfolding typed_of to_type
  typed_are = ap parted lines_are

  pub spelt : every (every is_letter) (first ∷ others) ≡ true
  spelt = ap (every (every is_letter)) (sym lines_are) ∙ to_type_letters

  pub typed_some : 1 ≤ length (typed_of (page_frame c size k))
  unfolding parted check_letters
  typed_some = omega (arith, ap length typed_are, length-append first (fed others), length-append (take full_data letters) (check_letters 1 (take full_data letters)))

  -- 20 lines, each of 42 characters, 6 spaces and a line feed
  pub to_type_short : length (printed_lines (to_type c size k)) ≤ 980
  unfolding to_type
  to_type_short = groups_short (page_frame c size k)

  -- z holds in front what `typed` wrote
  module _ (z : List ℕ) (m : ℕ) (p : Laid 0 859 (typed_of (page_frame c size k)) (replicate 859 0) z m) where
    lines_meant : spread 0 (take (m - 0) (drop 0 z)) ≡ printed_lines (to_type c size k)
    unfolding to_type
    lines_meant =
        ap (spread 0) (laid_part 859 m (typed_of (page_frame c size k)) (replicate 859 0) z (omega (arith, length-replicate {A = ℕ} 859 0)) p)
        ∙ typed_spread (page_frame c size k) (frame_some c size k)

    pub lines_fit : (at : ℕ) (l : List ℕ) → at + 980 ≤ length l → at + length (spread 0 (take (m - 0) (drop 0 z))) ≤ length l
    lines_fit at l room = omega (arith, ap length lines_meant, to_type_short)

    pub lines_printed : (at r : ℕ) (l x : List ℕ) → Laid at (length (spread 0 (take (m - 0) (drop 0 z)))) (spread 0 (take (m - 0) (drop 0 z))) l x r
        → Laid at 980 (printed_lines (to_type c size k)) l x r
    lines_printed at r l x q = laid_as at _ 980 r _ (printed_lines (to_type c size k)) l x q lines_meant (omega (arith, ap length lines_meant, to_type_short))
