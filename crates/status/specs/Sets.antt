-- What the status line says, and what the numbers and the states beside it say, of the SET of pages
-- that a collection is the meaning of (R1.4). No collection stands here: S is any set of pages.
use Rattle.std.specs.Prelude.{◌≡◌, ◌⊎◌, List, ◌++◌, ℕ, ◌<◌, length, get_or}
use Rattle.wire.specs.Sizes.{most_pages}
use Rattle.digits.specs.Decimal.{line_feed}
use Rattle.model.specs.Take.{Page}
use Rattle.model.specs.Complete.{NoPages, OneTotal, TotalsDisagree, DisputedAt, Missing, Agreed, Counted}
use Rattle.status.specs.declared.standing.Numbers.{Numbers}
use Rattle.status.specs.Numbers.{uncounted}
use Rattle.status.specs.Line.{field, pages_name, held_name, missing_name, disputed_name, first_name, no_first, empty_line, disagree_line}

-- the lowest index below the total t without a page; `-` where each has one (R9.12)
abbrev pub FirstIs : (Page → Type 0) → ℕ → List ℕ → Type 0
FirstIs S t text =
    ((k : ℕ) × (k < t) × Missing S k × ((j : ℕ) → j < k → Missing S j → ⊥) × (text ≡ field first_name k))
    ⊎ (((k : ℕ) → k < t → Missing S k → ⊥) × (text ≡ no_first))

-- all pages name the total t: how many indices below it are agreed on, without a page, and disputed
-- (R9.12)
pub record Standing (S : Page → Type 0) (t : ℕ) (line : List ℕ) : Type 0 where
  pub held : ℕ
  pub missing : ℕ
  pub disputed : ℕ
  pub first : List ℕ
  pub held_are : Counted (Agreed S) t held
  pub missing_are : Counted (Missing S) t missing
  pub disputed_are : Counted (DisputedAt S) t disputed
  pub first_is : FirstIs S t first
  pub whole : line ≡ field pages_name t ++ field held_name held ++ field missing_name missing ++ field disputed_name disputed ++ first ++ line_feed

-- the whole line: no page or two totals (R9.13), or one total (R9.12)
abbrev pub LineIs : (Page → Type 0) → List ℕ → Type 0
LineIs S line = (NoPages S × (line ≡ empty_line)) ⊎ ((TotalsDisagree S × (line ≡ disagree_line)) ⊎ ((t : ℕ) × OneTotal S t × Standing S t line))

-- the same as numbers: no page or two totals, or one total and its counts (R16.3)
abbrev pub NumbersAre : (Page → Type 0) → Numbers → Type 0
NumbersAre S n =
    (NoPages S × (n ≡ uncounted 0))
    ⊎ ((TotalsDisagree S × (n ≡ uncounted 3))
    ⊎ ((n.stands ≡ 0) × OneTotal S n.total × Counted (Agreed S) n.total n.held × Counted (Missing S) n.total n.missing
    × Counted (DisputedAt S) n.total n.disputed))

-- the state of the page of index k (R8.4): no page has it; some has, and all that have it agree;
-- two differ
abbrev pub StateIs : (Page → Type 0) → ℕ → ℕ → Type 0
StateIs S k s = ((s ≡ 0) × Missing S k) ⊎ (((s ≡ 1) × Agreed S k) ⊎ ((s ≡ 2) × DisputedAt S k))

-- of all 96; where the totals disagree no page is kept (R9.4)
pub record StatesAre (S : Page → Type 0) (states : List ℕ) : Type 0 where
  pub number : length states ≡ most_pages
  pub each : (k : ℕ) → (TotalsDisagree S → ⊥) → k < most_pages → StateIs S k (get_or states k 0)
  pub none : (k : ℕ) → TotalsDisagree S → get_or states k 0 ≡ 0
