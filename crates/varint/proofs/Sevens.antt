-- The bytes of a number, one at a time. Assumes nothing.
use Prim.Native.Nat.{ℕ, zero, suc, ◌+◌, ◌*◌, ◌/◌, ◌%◌, ◌^◌, ◌<◌, ◌≤◌}
use mathlib.Core.Path.{◌≡◌, refl}
use mathlib.Core.Logic.{⊎_elim}
use mathlib.Core.List.{List, [], ◌∷◌}
use native.Mathlib.Nat.{pow-suc}
use native.Mathlib.Omega.{arith}
use borrow.Author.Tests.{lt-ltb, le-ltb}
use Rattle.wire.specs.Number.{Bytes}
use Rattle.wire.proofs.Cases.{lt_or_le}
use Rattle.varint.specs.Varint.{sevens, varint}

pub sevens_last : (p n : ℕ) → n < 128 → sevens p n ≡ n ∷ []
unfolding sevens
sevens_last zero n h = refl
sevens_last (suc p) n h = rw (lt-ltb n 128 h)

pub sevens_more : (p n : ℕ) → 128 ≤ n → sevens (suc p) n ≡ (n % 128 + 128) ∷ sevens p (n / 128)
unfolding sevens
sevens_more p n h = rw (le-ltb n 128 h)

-- what holds of a last byte, of a byte that no other may follow, and of a byte before the rest's,
-- holds of every number's bytes
pub sevens_ind : (P : ℕ → ℕ → List ℕ → Type 0)
    → ((p n : ℕ) → n < 128 → P p n (n ∷ []))
    → ((n : ℕ) → 128 ≤ n → P zero n (n ∷ []))
    → ((p n : ℕ) → 128 ≤ n → P p (n / 128) (sevens p (n / 128)) → P (suc p) n ((n % 128 + 128) ∷ sevens p (n / 128)))
    → (p n : ℕ) → P p n (sevens p n)
unfolding sevens
sevens_ind P last full more zero n = ⊎_elim (last zero n) (full n) (lt_or_le n 128)
sevens_ind P last full more (suc p) n = go (sevens_ind P last full more p (n / 128))
  where
    go : P p (n / 128) (sevens p (n / 128)) → P (suc p) n (sevens (suc p) n)
    go rest =
        ⊎_elim (λ (h : n < 128). rw (lt-ltb n 128 h) (last (suc p) n h)) (λ (h : 128 ≤ n). rw (le-ltb n 128 h) (more p n h rest)) (lt_or_le n 128)

-- one byte in front
bytes_cons : (b : ℕ) (bs : List ℕ) → b < 256 → Bytes bs → Bytes (b ∷ bs)
bytes_cons b bs h t zero = h
bytes_cons b bs h t (suc i) = t i

pub sevens_bytes : (p n : ℕ) → n < 2 * 128 ^ p → Bytes (sevens p n)
sevens_bytes =
    sevens_ind (λ (p n : ℕ) (bs : List ℕ). n < 2 * 128 ^ p → Bytes bs)
    (λ p n h l. bytes_cons n [] (omega arith) (λ i. omega arith))
    (λ n h l. absurd (omega arith))
    (λ p n h rest l. bytes_cons (n % 128 + 128) (sevens p (n / 128)) (omega arith) (rest (omega (arith, pow-suc 128 p))))

pub varint_bytes : (n : ℕ) → n < 2 ^ 64 → Bytes (varint n)
unfolding varint
varint_bytes n l = sevens_bytes 9 n (omega arith)
