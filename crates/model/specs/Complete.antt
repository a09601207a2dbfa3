-- When a SET of pages is complete, and what each answer of finish says of it (R1.6). No collection
-- stands here: S is any set of pages.
use Rattle.std.specs.Prelude.{◌≡◌, ◌⊎◌, ℕ, suc, ◌<◌, length, get_or}
use mathlib.Core.List.{List, [], flatten}
use Rattle.model.specs.Take.{Page}
use Rattle.wire.specs.Answer.{Answer, done, refused_at}

-- there is no page
abbrev pub NoPages : (Page → Type 0) → Type 0
NoPages S = (p : Page) → S p → ⊥

-- there is a page, and all name the total t
abbrev pub OneTotal : (Page → Type 0) → ℕ → Type 0
OneTotal S t = ((p : Page) × S p) × ((p : Page) → S p → p.total ≡ t)

-- two pages name two totals
abbrev pub TotalsDisagree : (Page → Type 0) → Type 0
TotalsDisagree S = (p : Page) × (q : Page) × S p × S q × (p.total ≡ q.total → ⊥)

-- pages of one index have the same contents
abbrev pub Undisputed : (Page → Type 0) → Type 0
Undisputed S = (p q : Page) → S p → S q → p.index ≡ q.index → p.contents ≡ q.contents

-- two pages of index k differ
abbrev pub DisputedAt : (Page → Type 0) → ℕ → Type 0
DisputedAt S k = (p : Page) × (q : Page) × S p × S q × (p.index ≡ k) × (q.index ≡ k) × (p.contents ≡ q.contents → ⊥)

-- some page has index k: one without data is a page too (R9.9)
abbrev pub Present : (Page → Type 0) → ℕ → Type 0
Present S k = (p : Page) × S p × (p.index ≡ k)

-- none has
abbrev pub Missing : (Page → Type 0) → ℕ → Type 0
Missing S k = (p : Page) → S p → p.index ≡ k → ⊥

-- some page has index k, and all that have it have the same contents
abbrev pub Agreed : (Page → Type 0) → ℕ → Type 0
Agreed S k = Present S k × ((p q : Page) → S p → S q → p.index ≡ k → q.index ≡ k → p.contents ≡ q.contents)

-- of the indices below t, n have a property
pub data Counted (P : ℕ → Type 0) : ℕ → ℕ → Type 0 where
  nothing : Counted P 0 0
  has : {t n : ℕ} → Counted P t n → P t → Counted P (suc t) (suc n)
  lacks : {t n : ℕ} → Counted P t n → (P t → ⊥) → Counted P (suc t) n

-- complete, with the data d (R9.9): one total, one version of each page, each index below the total
-- has a page, and d is their contents in index order
pub record Complete (S : Page → Type 0) (d : List ℕ) : Type 0 where
  pub pages : ℕ
  pub named : OneTotal S pages
  pub agreed : Undisputed S
  pub parts : List (List ℕ)
  pub number : length parts ≡ pages
  pub each : (k : ℕ) → k < pages → (p : Page) × S p × (p.index ≡ k) × (p.contents ≡ get_or parts k [])
  pub in_order : flatten parts ≡ d

-- one total, and k is the lowest index below it that is disputed (R9.10)
abbrev pub FirstDisputed : (Page → Type 0) → ℕ → Type 0
FirstDisputed S k = (t : ℕ) × OneTotal S t × (k < t) × DisputedAt S k × ((j : ℕ) → j < k → DisputedAt S j → ⊥)

-- no page and k is 0; or one total, one version of each page, and k is the lowest index below the
-- total without a page (R9.10)
abbrev pub FirstMissing : (Page → Type 0) → ℕ → Type 0
FirstMissing S k =
    ((k ≡ 0) × NoPages S) ⊎ ((t : ℕ) × OneTotal S t × Undisputed S × (k < t) × Missing S k × ((j : ℕ) → j < k → Present S j))

-- what each answer of finish says of the set (R1.6): the data, or 14, 15 or 16 (R9.10)
abbrev pub FinishIs : (Page → Type 0) → Answer (List ℕ) → Type 0
FinishIs S (done d) = Complete S d
FinishIs S (refused_at n k) = ((n ≡ 14) × (k ≡ 0) × TotalsDisagree S) ⊎ (((n ≡ 15) × FirstDisputed S k) ⊎ ((n ≡ 16) × FirstMissing S k))
