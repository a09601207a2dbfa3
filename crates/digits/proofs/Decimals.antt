-- Numbers in decimal, by the writes that the code makes, and how long they are. Assumes nothing.
use mathlib.Core.Path.{◌≡◌, refl, sym}
use mathlib.Core.Logic.{⊎_elim}
use mathlib.Core.Bool.{Bool, true, false}
use mathlib.Core.List.{List, [], ◌∷◌, ◌++◌}
use Prim.Native.Nat.{ℕ, ◌+◌, ◌-◌, ◌/◌, ◌%◌, ◌≤◌, ◌<◌}
use native.Mathlib.Omega.{arith}
use borrow.Author.Tests.{lt-ltb, le-ltb}
use lib.Dec.{ltb}
use lib.ListN.{length, take, drop, replicate, length-append, length-replicate}
use Rattle.wire.specs.Answer.{choose, Answer, done, Kept}
use Rattle.wire.specs.Over.{over}
use Rattle.wire.specs.Writing.{writing}
use Rattle.wire.proofs.Cases.{lt_or_le}
use Rattle.wire.proofs.Overs.{over_run, read_over}
use Rattle.digits.specs.Decimal.{digit, decimal, last_digits, numeral, line_feed, refused_name, refused_line}

-- at most three digits
pub length_decimal : (n : ℕ) → length (decimal n) ≤ 3
unfolding decimal
length_decimal n = go (ltb n 10) (ltb n 100)
  where
    go : (v w : Bool) → length (choose v (digit n ∷ []) (choose w (digit (n / 10) ∷ digit (n % 10) ∷ []) (digit (n / 100) ∷ digit (n / 10 % 10) ∷ digit (n % 10) ∷ []))) ≤ 3
    go true w = omega arith
    go false true = omega arith
    go false false = omega arith

-- below a hundred at most two
pub decimal_short : (n : ℕ) → n < 100 → length (decimal n) ≤ 2
unfolding decimal
decimal_short n h = rw (lt-ltb n 100 h) (go (ltb n 10))
  where
    go : (v : Bool) → length (choose v (digit n ∷ []) (digit (n / 10) ∷ digit (n % 10) ∷ [])) ≤ 2
    go true = omega arith
    go false = omega arith

-- so 64 bytes are room enough for the line of any refusal
pub refused_most : (e : ℕ) → length (refused_line e) ≤ 64
unfolding refused_line
refused_most e = simp length-append (omega (arith, length_decimal e))

-- a byte's digits are those of any number
decimal_numeral : (n : ℕ) → n < 1000 → numeral n ≡ decimal n
unfolding decimal numeral last_digits
decimal_numeral n h =
    ⊎_elim (λ l. rw (lt-ltb n 10 l))
    (λ l. ⊎_elim (λ k. two l k) (λ k. three l k) (lt_or_le n 100))
    (lt_or_le n 10)
  where
    two : 10 ≤ n → n < 100 → last_digits 20 n ≡ decimal n
    two l k = let t = lt-ltb (n / 10) 10 (omega arith) in rw (le-ltb n 10 l, lt-ltb n 100 k, t)

    three : 10 ≤ n → 100 ≤ n → last_digits 20 n ≡ decimal n
    three l k =
        let t : ltb (n / 10) 10 ≡ false = le-ltb (n / 10) 10 (omega arith) in
        let u : ltb (n / 10 / 10) 10 ≡ true = lt-ltb (n / 10 / 10) 10 (omega arith) in
        let e : n / 10 / 10 ≡ n / 100 = omega arith in
        rw (le-ltb n 10 l, le-ltb n 100 k, t, u, e)

pub decimal_laid : (n at r : ℕ) (l x : List ℕ) → n < 256 → (r ≡ length (numeral n)) × (r ≤ 20) × (x ≡ over at (numeral n) l) → (r ≡ length (decimal n)) × (r ≤ 3) × (x ≡ over at (decimal n) l)
decimal_laid n at r l x h (k, m, e) =
    let s = decimal_numeral n (omega arith) in
    (rw s at k, omega (arith, rw s at k, length_decimal n), rw s at e)

-- ---- a line that is put together in a room of its own

-- what was laid in front is what is given
pub laid_given : (bs l x out out' : List ℕ) (n : ℕ) (r : Answer ℕ) → (x ≡ over 0 bs l) × (length bs ≡ n) → n ≤ length l
    → Kept (writing 0 out (done (take (n - 0) (drop 0 x)))) out out' r → Kept (writing 0 out (done bs)) out out' r
laid_given bs l x out out' n r (e, f) room w =
    let z : n - 0 ≡ length bs = omega arith in
    rw (z, e, read_over 0 bs l (omega arith)) at w

pub refused_given : (e k : ℕ) (x y z out out' : List ℕ) (r : Answer ℕ) → x ≡ over 0 refused_name (replicate 12 0) → (k ≡ length (decimal e)) × (k ≤ 3) × (y ≡ over 8 (decimal e) x)
    → z ≡ over (8 + k) line_feed y → Kept (writing 0 out (done (take (8 + k + 1 - 0) (drop 0 z)))) out out' r → Kept (writing 0 out (done (refused_line e))) out out' r
unfolding refused_line
refused_given e k x y z out out' r p (m, s, q) f w =
    let room : length (replicate {A = ℕ} 12 0) ≡ 12 = length-replicate {A = ℕ} 12 0 in
    let a = over_run 0 8 8 k refused_name (decimal e) (replicate 12 0) x y q (p, refl) (sym m) refl (omega arith) in
    let b = over_run 0 (8 + k) (8 + k) 1 (refused_name ++ decimal e) line_feed (replicate 12 0) y z f a refl (omega arith) (omega arith) in
    laid_given (refused_name ++ decimal e ++ line_feed) (replicate 12 0) z out out' (8 + k + 1) r b (omega arith) w
