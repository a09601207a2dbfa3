-- The table of inverses: its rule, by one test that antt computes over the whole table; and the
-- division that undoes a multiplication. Assumes nothing.
use mathlib.Core.Path.{◌≡◌, refl, ap, ap₂, ◌∙◌}
use mathlib.Core.Bool.{Bool}
use mathlib.Core.List.{List, [], ◌∷◌}
use Prim.Native.Nat.{ℕ, zero, suc, ◌+◌, ◌*◌, ◌/◌, ◌%◌, ◌^◌, ◌<◌}
use native.Mathlib.Nat.{lt_of_lt_of_le}
use native.Mathlib.Numerals.{add-one}
use native.Mathlib.Omega.{arith}
use lib.Dec.{T, lit≤, eqb, ltb, eqb→eq, ltb→lt}
use lib.ListN.{get_or}
use Rattle.bits.proofs.Table.{every, at}
use Rattle.field.specs.Inverses.{inverses}
use Rattle.field.specs.Field.{times_x, pick, times, product, inverse, over}
use Rattle.field.specs.Element.{halves}
use Rattle.field.proofs.Products.{product_swap, one_product, product_small, product_comm, product_assoc}

-- `pick d 1` leaves out 0, which has no inverse
abbrev right : ℕ → ℕ → Bool
right d x = eqb (times 8 d x) (pick d 1)

all_right : T (every right 0 inverses)
unfolding times times_x
all_right = tt

abbrev small : ℕ → ℕ → Bool
small d x = ltb x (2 ^ 128)

all_small : T (every small 0 inverses)
all_small = tt

pub inverse_right : (d : ℕ) → 0 < d → d < 256 → product (inverse d) d ≡ 1
unfolding inverse
inverse_right zero z h = absurd (omega arith)
inverse_right (suc d) z h =
    let x = get_or inverses (suc d) 0 in
    product_small x (suc d) h ∙ eqb→eq (times 8 (suc d) x) 1 (at right inverses all_right (suc d) h)

pub inverse_good : (d : ℕ) → d < 256 → inverse d < 2 ^ 128
unfolding inverse
inverse_good d h = ltb→lt (get_or inverses d 0) (2 ^ 128) (at small inverses all_small d h)

pub undo : (a d : ℕ) → 0 < d → d < 256 → a < 2 ^ 128 → over (product a d) d ≡ a
undo a d z h g =
    let gd : d < 2 ^ 128 = lt_of_lt_of_le h (lit≤ tt) in
    product_assoc a d (inverse d) g gd
    ∙ ap (product a) (product_comm d (inverse d) gd (inverse_good d h) ∙ inverse_right d z h)
    ∙ one_product a

pub redo : (a d : ℕ) → 0 < d → d < 256 → a < 2 ^ 128 → product (over a d) d ≡ a
redo a d z h g = product_swap a (inverse d) d ∙ undo a d z h g

-- ---- the table of the code

-- the halves of each, one after the other
abbrev pub flat : List ℕ → List ℕ
flat [] = []
flat (x ∷ xs) = x / 2 ^ 64 ∷ x % 2 ^ 64 ∷ flat xs

flat_at : (xs : List ℕ) (d : ℕ) → (get_or (flat xs) (d * 2) 0 ≡ get_or xs d 0 / 2 ^ 64) × (get_or (flat xs) (suc (d * 2)) 0 ≡ get_or xs d 0 % 2 ^ 64)
flat_at [] d = (refl, refl)
flat_at (x ∷ xs) zero = (refl, refl)
flat_at (x ∷ xs) (suc d) =
    let e : suc d * 2 ≡ suc (suc (d * 2)) = omega arith in (
      ap (λ (k : ℕ). get_or (flat (x ∷ xs)) k 0) e ∙ (flat_at xs d).0,
      ap (λ (k : ℕ). get_or (flat (x ∷ xs)) (suc k) 0) e ∙ (flat_at xs d).1,
    )

pub inverse_halves : (t : List ℕ) (d : ℕ) → t ≡ flat inverses → get_or t (d * 2) 0 ∷ get_or t (d * 2 + 1) 0 ∷ [] ≡ halves (inverse d)
unfolding inverse
inverse_halves t d e =
    ap₂ {C = List ℕ} (λ (h l : ℕ). h ∷ l ∷ []) (ap (λ (x : List ℕ). get_or x (d * 2) 0) e ∙ (flat_at inverses d).0)
    (ap₂ (λ (x : List ℕ) (k : ℕ). get_or x k 0) e (add-one (d * 2)) ∙ (flat_at inverses d).1)
