-- The pages of a document: section 7 of docs/RULES.md.
use Rattle.std.specs.Prelude.{ℕ, zero, suc, ◌+◌, ◌-◌, ◌*◌, ◌/◌, ◌<◌, ◌≤◌, Bool, ◌&&◌, List, [], ◌++◌, ltb, leb, length, take, drop}
use Rattle.wire.specs.Answer.{Answer, done, then, demand}
use Rattle.wire.specs.Sizes.{most_pages, most_data}
use Rattle.text.specs.Text.{Form, text_of}
use Rattle.document_id.specs.Id.{document_id_of}
use Rattle.frame.specs.Layout.{layout}

-- the fewest pages of so many bytes that hold a ciphertext of n bytes (R7.2)
unfoldable pub page_count : ℕ → ℕ → ℕ
page_count n size = (n + (size - 1)) / size

-- page i: as many bytes as a page has, or what is left at the end (R7.2)
unfoldable pub page_data : List ℕ → ℕ → ℕ → List ℕ
page_data c size i = take size (drop (i * size) c)

-- the main frame of page i (R7.3)
unfoldable pub page_frame : List ℕ → ℕ → ℕ → List ℕ
page_frame c size i = layout 0x44 (document_id_of c) i (page_count (length c) size) (page_data c size i)

-- there is something to print, and a page holds at least a byte of it and at most what a frame may
-- (R7.2, R3.2)
unfoldable pub printable : ℕ → ℕ → Bool
printable n size = ltb 0 n && (ltb 0 size && leb size most_data)

-- how many pages there are: 19 where nothing can be printed so (R7.4), 9 where they are too many
-- (R7.4, R3.1)
unfoldable pub count_of : ℕ → ℕ → Answer ℕ
count_of n size =
    demand (printable n size) 19
    (demand (leb (page_count n size) most_pages) 9
    (done (page_count n size)))

-- so a document that can be printed with this page size (R7.4)
pub record Printed (c : List ℕ) (size : ℕ) : Type 0 where
  pub some : 0 < length c
  pub least : 0 < size
  pub most : size ≤ most_data
  pub fits : page_count (length c) size ≤ most_pages

-- one page of the document (R7.3), which has to be there: else 8 (R7.4)
unfoldable pub page_verdict : List ℕ → ℕ → ℕ → Answer (List ℕ)
page_verdict c size number =
    then (count_of (length c) size) (λ total.
    demand (ltb number total) 8
    (done (layout 0x44 (document_id_of c) number total (page_data c size number))))

-- the frame through a text form (R7.3); the text's own refusals come last
abbrev pub typed : Form → Answer (List ℕ) → Answer (List ℕ)
typed f v = then v (λ bs. done (text_of f bs))

-- the data of the first n pages, in order
unfoldable pub joined : ℕ → (ℕ → List ℕ) → List ℕ
joined zero page = []
joined (suc n) page = joined n page ++ page n
