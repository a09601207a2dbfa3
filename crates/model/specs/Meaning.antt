-- What a collection says of a SET of pages (R1.4). No order and no count stands here: S is any set
-- of pages.
use Rattle.std.specs.Prelude.{◌≡◌, ℕ, length, get_or}
use Rattle.wire.specs.Sizes.{most_pages}
use Rattle.model.specs.Book.{Slot, absent, held, disputed, Book, empty, collecting, disagree}
use Rattle.model.specs.Take.{Page}

-- absent: no page of S has index k. Held: some page has, and each that has holds d. Disputed: two
-- pages that have it differ (R9.4)
abbrev pub SlotIs : (Page → Type 0) → ℕ → Slot → Type 0
SlotIs S k absent = (p : Page) → S p → p.index ≡ k → ⊥
SlotIs S k (held d) = ((p : Page) × S p × (p.index ≡ k)) × ((p : Page) → S p → p.index ≡ k → p.contents ≡ d)
SlotIs S k disputed = (p : Page) × (q : Page) × S p × S q × (p.index ≡ k) × (q.index ≡ k) × (p.contents ≡ q.contents → ⊥)

-- what the set alone decides (R1.4). Empty: S has no page. Collecting: it has one, all name the
-- total t, and each slot is what S says of its index. Else two pages name two totals
abbrev pub BookIs : (Page → Type 0) → Book → Type 0
BookIs S empty = (p : Page) → S p → ⊥
BookIs S (collecting t ss) = ((p : Page) × S p) × ((p : Page) → S p → p.total ≡ t) × (length ss ≡ most_pages) × ((k : ℕ) → SlotIs S k (get_or ss k absent))
BookIs S disagree = (p : Page) × (q : Page) × S p × S q × (p.total ≡ q.total → ⊥)
