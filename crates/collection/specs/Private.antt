-- What the private functions are given and answer: nothing here is promised to a caller.
use Rattle.std.specs.Prelude.{ℕ, ◌+◌, ◌≤◌, ◌<◌, ◌≡◌, true, List, Result, Ok, Err, length}
use Rattle.wire.specs.Answer.{refused, Got, got}
use Rattle.wire.specs.Refusal.{number}
use Rattle.wire.specs.declared.Refusal.{Refusal}
use Rattle.wire.specs.Sizes.{most_pages, most_data}
use Rattle.wire.specs.Span.{part_at}
use Rattle.model.specs.Book.{Slot, Book}
use Rattle.model.specs.Take.{Page, kind_of, kind_of_slot}
use Rattle.block.specs.Block.{with_page}
use Rattle.block.specs.Read.{block_at, read_slot, ok_page}
use Rattle.book.specs.Head.{read_head}
use Rattle.book.specs.Encode.{encode}
use Rattle.collection.specs.declared.take.PageAt as P

abbrev pub page : ℕ → ℕ → List ℕ → Page
page i t d = record { index = i; total = t; contents = d }

-- the page of a frame s
abbrev pub page_told : List ℕ → Result P.PageAt Refusal → Got Page
page_told s (Ok p) = got (page p.index p.total (part_at s p.at)) (p.at.start + p.at.len + 4)
page_told s (Err e) = refused (number e)

-- what a page that is taken keeps to
abbrev pub Fits : ℕ → ℕ → List ℕ → Type 0
Fits i t d = (i < t) × (t ≤ most_pages) × (length d ≤ most_data)

-- both are collecting, with one total
abbrev pub OneTotal : List ℕ → List ℕ → Type 0
OneTotal c o = ((read_head c).state ≡ 1) × ((read_head o).state ≡ 1) × ((read_head c).total ≡ (read_head o).total)

-- the block from index at on is well formed, as that of page i
abbrev pub BlockOf : (id : List ℕ) (at i : ℕ) (c : List ℕ) → Type 0
BlockOf id at i c = ok_page id i (block_at at c) ≡ true

abbrev pub slot_at : ℕ → List ℕ → Slot
slot_at at c = read_slot (block_at at c)

-- the block from index at on became that of p, and how p stands was answered
pub record Slotted (id : List ℕ) (at i : ℕ) (p : Slot) (c x : List ℕ) (kind : ℕ) : Type 0 where
  pub answer : kind ≡ kind_of_slot p
  pub bytes : x ≡ with_page at id i p c

-- the collection became b, and how page i stands in it was answered
pub record Became (id : List ℕ) (i : ℕ) (b : Book) (x : List ℕ) (kind : ℕ) : Type 0 where
  pub answer : kind ≡ kind_of i b
  pub bytes : x ≡ encode id b
