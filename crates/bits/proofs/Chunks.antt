-- A list read by chunks of n. Assumes nothing.
use mathlib.Core.Path.{◌≡◌, sym, ap, ◌∙◌}
use mathlib.Core.List.{List}
use Prim.Native.Nat.{ℕ, zero, suc, ◌*◌, ◌<◌}
use native.Mathlib.Nat.{le_of_suc-le-suc, not-suc-le-zero, suc-mul, zero-mul, add_comm}
use lib.ListN.{take, drop, get_or}
use lib.Seq.{drop-drop}
use Rattle.std.specs.Simd.{first_chunks}

-- chunk i of the first k
pub chunk : (n k i : ℕ) (xs d : List ℕ) → i < k → get_or (first_chunks n k xs) i d ≡ take n (drop (i * n) xs)
chunk n zero i xs d h = absurd (not-suc-le-zero h)
chunk n (suc k) zero xs d h = rw zero-mul
chunk n (suc k) (suc i) xs d h =
    chunk n k i (drop n xs) d (le_of_suc-le-suc h)
    ∙ ap (take n) (drop-drop (i * n) n xs ∙ ap (λ (x : ℕ). drop x xs) (add_comm n (i * n) ∙ sym (suc-mul i n)))
