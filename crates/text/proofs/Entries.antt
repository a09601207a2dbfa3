-- The table that a form's definition gives: the sort of each byte. The code's table is held to it
-- by computing both. Assumes nothing.
use Prim.Native.Nat.{ℕ, zero, suc, ◌+◌, ◌<◌}
use mathlib.Core.Path.{◌≡◌, sym, ap, ◌∙◌}
use mathlib.Core.List.{List, [], ◌∷◌}
use native.Mathlib.Nat.{add-zero, add-suc, suc-add, zero-add, le_of_suc-le-suc}
use native.Mathlib.Omega.{arith}
use lib.ListN.{get_or}
use Rattle.text.specs.Text.{Form}
use Rattle.text.specs.Private.{form_of, sort, Sorted}

-- n entries, from that of the byte i on
abbrev pub entries : Form → ℕ → ℕ → List ℕ
entries f zero i = []
entries f (suc n) i = sort f i ∷ entries f n (suc i)

entries_at : (f : Form) (n i k : ℕ) → k < n → get_or (entries f n i) k 0 ≡ sort f (i + k)
entries_at f zero i k h = absurd (omega arith)
entries_at f (suc n) i zero h = ap (sort f) (sym (add-zero i))
entries_at f (suc n) i (suc k) h = entries_at f n (suc i) k (le_of_suc-le-suc h) ∙ ap (sort f) (suc-add i k ∙ sym (add-suc i k))

pub sorted : (w : ℕ) → Sorted w (entries (form_of w) 256 0)
sorted w c h = entries_at (form_of w) 256 0 c h ∙ ap (sort (form_of w)) (zero-add c)
