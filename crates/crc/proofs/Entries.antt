-- The rule of the table, at each of its entries, from one equation that antt computes.
-- Assumes nothing.
use mathlib.Core.Path.{◌≡◌, sym, ap, ◌∙◌}
use mathlib.Core.List.{List, [], ◌∷◌}
use Prim.Native.Nat.{ℕ, zero, suc, ◌+◌, ◌<◌}
use native.Mathlib.Nat.{zero-add, add-zero, add-suc, suc-add, le_of_suc-le-suc, not-suc-le-zero}
use lib.ListN.{get_or}
use Rattle.crc.specs.Crc.{bits}

-- what f makes of i, i + 1, .., n numbers in all
abbrev pub entries : (ℕ → ℕ) → ℕ → ℕ → List ℕ
entries f i zero = []
entries f i (suc n) = f i ∷ entries f (suc i) n

pub entry : (f : ℕ → ℕ) (n i k : ℕ) → k < n → get_or (entries f i n) k 0 ≡ f (i + k)
entry f zero i k h = absurd (not-suc-le-zero h)
entry f (suc n) i zero h = ap f (sym (add-zero i))
entry f (suc n) i (suc k) h = entry f n (suc i) k (le_of_suc-le-suc h) ∙ ap f (suc-add i k ∙ sym (add-suc i k))

-- what eight bits make of each byte
abbrev pub Eights : List ℕ → Type 0
Eights t = (k : ℕ) → k < 256 → get_or t k 0 ≡ bits 8 k

pub eights : (t : List ℕ) → t ≡ entries (bits 8) 0 256 → Eights t
eights t e k h = ap (λ (x : List ℕ). get_or x k 0) e ∙ entry (bits 8) 256 0 k h ∙ ap (bits 8) (zero-add k)
