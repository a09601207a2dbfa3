-- The lowest bytes of a number, as the library's `to_be_bytes` puts them. Assumes nothing.
use Prim.Native.Nat.{ℕ, zero, suc, ◌+◌, ◌-◌, ◌/◌, ◌%◌, ◌^◌, ◌≤◌}
use mathlib.Core.Path.{◌≡◌, refl, sym, ap, ap₂, ◌∙◌}
use mathlib.Core.List.{List, [], ◌∷◌, ◌++◌}
use native.Mathlib.Nat.{div-div-eq-div-mul, pow-suc, mul_comm, zero-add, suc-add}
use native.Mathlib.Omega.{arith}
use lib.ListN.{take, drop}
use lib.Seq.{take_all}
use mir.Syntax.{w64}
use Rattle.std.specs.Int.{byte_at, bytes_high_first, to_be_bytes}
use Rattle.wire.specs.Number.{digits, big_endian}
use Rattle.wire.proofs.Digits.{length_digits}

-- byte k + 1 of a number is byte k of what is left above its lowest
next_byte : (k n : ℕ) → byte_at (suc k) n ≡ byte_at k (n / 256)
next_byte zero n = refl
next_byte (suc k) n =
    ap (λ (m : ℕ). m % 256)
    (ap (λ (m : ℕ). n / m) (pow-suc 256 (suc k) ∙ mul_comm (256 ^ suc k) 256) ∙ sym (div-div-eq-div-mul n 256 (256 ^ suc k)))

high_snoc : (k n : ℕ) → bytes_high_first (suc k) n ≡ bytes_high_first k (n / 256) ++ (n % 256 ∷ [])
high_snoc zero n = refl
high_snoc (suc k) n = ap₂ (λ (b : ℕ) (bs : List ℕ). b ∷ bs) (next_byte k n) (high_snoc k n)

high_digits : (k n : ℕ) → bytes_high_first k n ≡ big_endian k n
unfolding digits
high_digits zero n = refl
high_digits (suc k) n = high_snoc k n ∙ ap (λ (bs : List ℕ). bs ++ (n % 256 ∷ [])) (high_digits k (n / 256))

high_drop : (j k n : ℕ) → drop j (bytes_high_first (j + k) n) ≡ bytes_high_first k n
high_drop zero k n = ap (λ (i : ℕ). bytes_high_first i n) (zero-add k)
high_drop (suc j) k n = ap (λ (i : ℕ). drop (suc j) (bytes_high_first i n)) (suc-add j k) ∙ high_drop j k n

-- the lowest k of eight, as the slice of the last k says them
pub lowest : (k n : ℕ) → k ≤ 8 → take (8 - (8 - k)) (drop (8 - k) (to_be_bytes w64 n)) ≡ big_endian k n
lowest k n h =
    let e : 8 - k + k ≡ 8 = omega arith in
    let c = length_digits 256 k n in
    ap (λ (i : ℕ). take (8 - (8 - k)) (drop (8 - k) (bytes_high_first i n))) (sym e)
    ∙ ap (take (8 - (8 - k))) (high_drop (8 - k) k n ∙ high_digits k n)
    ∙ take_all (8 - (8 - k)) (big_endian k n) (omega arith)
