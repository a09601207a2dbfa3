-- A document as it is printed, in pages of a size that is given: section 15 of docs/RULES.md.
use Rattle.std.specs.Prelude.{ℕ, suc, List, [], ◌∷◌, ◌++◌, ltb, leb, eqb, length}
use Rattle.wire.specs.Answer.{choose, Answer, done, then, demand}
use Rattle.wire.specs.Ascii.{ascii}
use Rattle.digits.specs.Decimal.{decimal, line_feed}
use Rattle.digits.specs.Hex.{hex_of}
use Rattle.text.specs.Text.{base64, zbase32, text_of}
use Rattle.typed.specs.Typed.{most_lines, most_typed, rows, numbered}
use Rattle.document_id.specs.Id.{document_id_of}
use Rattle.page.specs.Page.{page_count, page_frame, count_of, joined}

-- the line that names the document, as `pier` reads it (R15.1, R15.4)
unfoldable pub id_line : List ℕ → List ℕ
id_line c = hex_of (document_id_of c) ++ line_feed

-- a page as `pier` reads it: base64 (R15.4, R7.3), on one line without spaces (R5.4)
unfoldable pub scan_line : List ℕ → ℕ → ℕ → List ℕ
scan_line c size k = text_of base64 (page_frame c size k) ++ line_feed

-- `page `, ` of `: the words, with their spaces
abbrev pub page_word : List ℕ
page_word = ascii "page "

abbrev pub of_word : List ℕ
of_word = ascii " of "

-- `page K of N`: the first page is page 0 (R15.4)
unfoldable pub place_line : ℕ → ℕ → List ℕ
place_line k n = page_word ++ decimal k ++ of_word ++ decimal n ++ line_feed

-- the lines that are typed of bytes: their z-base-32, with the check of each line (R5.9)
abbrev pub to_type_of : List ℕ → List (List ℕ)
to_type_of bs = numbered 1 (rows most_lines (text_of zbase32 bs))

-- of page k: those of its frame
unfoldable pub to_type : List ℕ → ℕ → ℕ → List (List ℕ)
to_type c size k = to_type_of (page_frame c size k)

-- a line in groups of six characters with a space between two of them, where n characters of its
-- first group stand in front already (R15.4)
unfoldable pub grouped_from : ℕ → List ℕ → List ℕ
grouped_from n [] = []
grouped_from n (c ∷ cs) = choose (eqb n 6) (0x20 ∷ c ∷ grouped_from 1 cs) (c ∷ grouped_from (suc n) cs)

abbrev pub grouped : List ℕ → List ℕ
grouped l = grouped_from 0 l

-- lines in groups, and a line feed behind each (R15.4)
unfoldable pub printed_lines : List (List ℕ) → List ℕ
printed_lines [] = []
printed_lines (l ∷ ls) = grouped l ++ (line_feed ++ printed_lines ls)

-- the lines to be typed of any bytes, in print: more than 500 are 9 (R5.13)
unfoldable pub groups_verdict : List ℕ → Answer (List ℕ)
groups_verdict bs = demand (leb (length bs) most_typed) 9 (done (printed_lines (to_type_of bs)))

-- the place, and the lines to be typed (R15.4)
unfoldable pub typed_lines : List ℕ → ℕ → ℕ → List ℕ
typed_lines c size k = place_line k (page_count (length c) size) ++ printed_lines (to_type c size k)

-- what is printed: the id and every page's line in order (R15.4)
unfoldable pub scan_sheet : List ℕ → ℕ → List ℕ
scan_sheet c size = id_line c ++ joined (page_count (length c) size) (scan_line c size)

-- with `typed`: the id, and for every page its place and its lines (R15.4)
unfoldable pub typed_sheet : List ℕ → ℕ → List ℕ
typed_sheet c size = id_line c ++ joined (page_count (length c) size) (typed_lines c size)

-- a sheet, where its pages can be counted: 19 for no ciphertext or no such size, 9 for too much of
-- it (R7.4, R15.5)
abbrev pub printed : List ℕ → Answer ℕ → Answer (List ℕ)
printed sheet counted = then counted (λ _. done sheet)

unfoldable pub scan_verdict : List ℕ → ℕ → Answer (List ℕ)
scan_verdict c size = printed (scan_sheet c size) (count_of (length c) size)

unfoldable pub typed_verdict : List ℕ → ℕ → Answer (List ℕ)
typed_verdict c size = printed (typed_sheet c size) (count_of (length c) size)

-- of one page, which has to be one of the document's: else 8 (R7.4, R15.5)
unfoldable pub place_verdict : List ℕ → ℕ → ℕ → Answer (List ℕ)
place_verdict c size k =
    then (count_of (length c) size) (λ n.
    demand (ltb k n) 8
    (done (typed_lines c size k)))
