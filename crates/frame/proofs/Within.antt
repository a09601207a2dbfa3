-- What a field that was read passed, and that it ends within the input. Assumes nothing.
use Prim.Native.Nat.{ℕ, ◌+◌, ◌-◌, ◌<◌, ◌≤◌}
use mathlib.Core.Path.{◌≡◌, sym, ap, ◌∙◌}
use mathlib.Core.Bool.{true, false}
use mathlib.Core.List.{List}
use native.Mathlib.Omega.{arith}
use borrow.Author.Tests.{leb-false, lt-leb, eqb-true, eq-eqb, ne_eqb}
use lib.Dec.{leb, eqb}
use lib.ListN.{length, take, drop, get_or}
use Rattle.wire.specs.Answer.{refused, got}
use Rattle.wire.specs.Number.{big_endian, Bytes}
use Rattle.wire.proofs.Cases.{passed, escaped, then_passed, got_value, got_next}
use Rattle.lend.specs.Same.{same}
use Rattle.lend.proofs.Sames.{same_eq}
use Rattle.crc.specs.Crc.{crc32}
use Rattle.varint.specs.Varint.{varint_at}
use Rattle.varint.proofs.Rounds.{read_stands}
use Rattle.frame.specs.Frame.{Numbers, known, kind_at, numbers_at, data_at}

-- the type byte is there, and one of the three or none
module _ (s : List ℕ) (at : ℕ) (h : at < length s) where
  pub kind_stands : (kind : ℕ) → get_or s at 0 ≡ kind → known kind ≡ true → got kind (at + 1) ≡ kind_at s at
  unfolding kind_at
  kind_stands kind e y = rw (lt-leb (length s) at h, e, y)

  pub kind_none : (get_or s at 0 ≡ 0x44 → ⊥) → (get_or s at 0 ≡ 0x4B → ⊥) → (get_or s at 0 ≡ 0x41 → ⊥) → refused 6 ≡ kind_at s at
  unfolding kind_at known
  kind_none m k a =
      let b : ℕ = get_or s at 0 in
      rw (lt-leb (length s) at h, ne_eqb b 0x44 m, ne_eqb b 0x4B k, ne_eqb b 0x41 a)

-- the type byte stands at a position, and is one of the three
pub kind_got : (s : List ℕ) (at kind next : ℕ) → kind_at s at ≡ got kind next → (next ≡ at + 1) × (next ≤ length s) × (kind ≡ get_or s at 0) × (known kind ≡ true)
unfolding kind_at
kind_got s at kind next h =
    let t = escaped (leb (length s) at) _ 3 h in
    let u = passed (known (get_or s at 0)) (got (get_or s at 0) (at + 1)) 6 t.1 in
    let p : next ≡ at + 1 = sym (got_next u.1) in
    let k : kind ≡ get_or s at 0 = sym (got_value u.1) in
    (p, omega (arith, leb-false), k, ap known k ∙ u.0)

-- the data and the CRC are all that is left
pub data_got : (s : List ℕ) (at len next : ℕ) (u : Unit) → data_at s at len ≡ got u next
    → (next ≡ at + len + 4) × (at + len + 4 ≡ length s) × (drop (at + len) s ≡ big_endian 4 (crc32 (take (at + len) s)))
unfolding data_at
data_got s at len next u h =
    let t = passed (eqb (length s - at) (len + 4)) _ 3 h in
    let w = passed (same (drop (at + len) s) (big_endian 4 (crc32 (take (at + len) s)))) (got tt (at + len + 4)) 10 t.1 in
    let p : next ≡ at + len + 4 = sym (got_next w.1) in
    (p, omega (arith, eqb-true (length s - at) (len + 4) t.0), same_eq (drop (at + len) s) (big_endian 4 (crc32 (take (at + len) s))) w.0)

-- and how it is known
module _ (s : List ℕ) (at len : ℕ) where
  pub data_cut : (length s - at ≡ len + 4 → ⊥) → refused 3 ≡ data_at s at len
  unfolding data_at
  data_cut h = rw (ne_eqb (length s - at) (len + 4) h)

  module _ (left : length s - at ≡ len + 4) where
    pub data_stands : same (drop (at + len) s) (big_endian 4 (crc32 (take (at + len) s))) ≡ true → got tt (at + len + 4) ≡ data_at s at len
    unfolding data_at
    data_stands e = rw (eq-eqb (length s - at) (len + 4) left, e)

    pub data_differs : same (drop (at + len) s) (big_endian 4 (crc32 (take (at + len) s))) ≡ false → refused 10 ≡ data_at s at len
    unfolding data_at
    data_differs e = rw (eq-eqb (length s - at) (len + 4) left, e)

-- what a caller of a reader knows of the position, and that the data end where the CRC does
pub data_ends : (s : List ℕ) (at len next : ℕ) → got tt next ≡ data_at s at len → got tt (at + len + 4) ≡ data_at s at len
data_ends s at len next e = rw (← (data_got s at len next tt (sym e)).0) e

pub kind_within : (s : List ℕ) (at kind next : ℕ) → got kind next ≡ kind_at s at → next ≤ length s
kind_within s at kind next e = (kind_got s at kind next (sym e)).1

pub numbers_within : (s : List ℕ) (at : ℕ) (n : Numbers) (next : ℕ) → Bytes s → got n next ≡ numbers_at s at → next ≤ length s
unfolding numbers_at
numbers_within s at n next y e =
    let t₁ = then_passed (varint_at s at) _ (sym e) in
    let t₂ = then_passed (varint_at s t₁.1) _ t₁.3 in
    let t₃ = then_passed (varint_at s t₂.1) _ t₂.3 in
    let p : t₃.1 ≡ next = got_next t₃.3 in
    omega (arith, (read_stands s t₂.1 t₃.0 t₃.1 y t₃.2).0.within)
