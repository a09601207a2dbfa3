-- What the parts of the code answer, for the contracts of private functions: nothing here is
-- promised to a caller.
use Rattle.std.specs.Prelude.{ℕ, suc, ◌<◌, ◌≡◌, Bool, false, List, [], ◌∷◌, ◌++◌, eqb, length}
use Rattle.wire.specs.Answer.{choose, Answer, done}
use Rattle.digits.specs.Decimal.{line_feed}
use Rattle.typed.specs.Typed.{feed}
use Rattle.page.specs.Page.{page_count, count_of, joined}
use Rattle.sheet.specs.Sheet.{id_line, printed}

-- the document can be printed in pages of this size, and has a page k
pub record There (c : List ℕ) (size k : ℕ) : Type 0 where
  pub counted : done (page_count (length c) size) ≡ count_of (length c) size
  pub below : k < page_count (length c) size

-- where n characters of a group stand in front of character c: how many of its group stand then
unfoldable pub standing : ℕ → ℕ → ℕ
standing n c = choose (eqb c feed) 0 (choose (eqb n 6) 1 (suc n))

-- whether c begins another group on its line
unfoldable pub begins : ℕ → ℕ → Bool
begins n c = choose (eqb c feed) false (eqb n 6)

-- and what is printed of it
unfoldable pub shown : ℕ → ℕ → List ℕ
shown n c = choose (begins n c) (0x20 ∷ c ∷ []) (c ∷ [])

-- lines parted by line feeds, as they are printed: in groups, and with a line feed at the end
unfoldable pub spread : ℕ → List ℕ → List ℕ
spread n [] = line_feed
spread n (c ∷ cs) = shown n c ++ spread (standing n c) cs

-- the id, and the lines of every page in order
unfoldable pub sheet_of : (List ℕ → ℕ → ℕ → List ℕ) → List ℕ → ℕ → List ℕ
sheet_of lines c size = id_line c ++ joined (page_count (length c) size) (lines c size)

unfoldable pub sheet_verdict : (List ℕ → ℕ → ℕ → List ℕ) → List ℕ → ℕ → Answer (List ℕ)
sheet_verdict lines c size = printed (sheet_of lines c size) (count_of (length c) size)
