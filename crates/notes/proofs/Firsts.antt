-- What is wrong with a first line, as the code finds it. Assumes nothing.
use Prim.Native.Nat.{ℕ, ◌+◌, ◌≤◌, ◌<◌}
use mathlib.Core.Path.{◌≡◌}
use mathlib.Core.List.{List}
use native.Mathlib.Numerals.{add-one}
use native.Mathlib.Omega.{arith}
use mathlib.Core.Bool.{false}
use lib.Dec.{eqb}
use borrow.Author.Tests.{lt-ltb, le-ltb, le-leb, lt-leb, eq-eqb, ne_eqb}
use lib.ListN.{length, drop, get_or, drop_of_length-le}
use lib.Seq.{drop-cons}
use Rattle.digits.specs.Hex.{hex_value}
use Rattle.notes.specs.Line.{strange, byte_fault, id_fault}

-- the first strange byte is that of what is left
module _ (s : List ℕ) (i : ℕ) where
  pub strange_on : i < length s → hex_value (get_or s i 0) < 16 → strange (drop i s) ≡ strange (drop (i + 1) s)
  unfolding strange
  strange_on h k = rw (add-one i, drop-cons s i 0 h, lt-ltb (hex_value (get_or s i 0)) 16 k)

  pub strange_stop : i < length s → 16 ≤ hex_value (get_or s i 0) → strange (drop i s) ≡ get_or s i 0
  unfolding strange
  strange_stop h k = rw (drop-cons s i 0 h, le-ltb (hex_value (get_or s i 0)) 16 k)

  pub strange_end : length s ≤ i → strange (drop i s) ≡ 0x30
  unfolding strange
  strange_end h = rw (drop_of_length-le s {i = i} h)

module _ (line : List ℕ) (b v : ℕ) (e : b ≡ strange line) (f : v ≡ hex_value b) where
  pub fault_byte : 15 < v → (r : ℕ) → r ≡ byte_fault b → r ≡ id_fault line
  unfolding id_fault
  fault_byte h r q = rw (← e, le-ltb (hex_value b) 16 (omega (arith, f))) q

  pub fault_none : v ≤ 15 → length line ≡ 16 → 0 ≡ id_fault line
  unfolding id_fault
  fault_none h l = rw (← e, lt-ltb (hex_value b) 16 (omega (arith, f)), eq-eqb (length line) 16 l)

  pub fault_length : v ≤ 15 → (length line ≡ 16 → ⊥) → 1 ≡ id_fault line
  unfolding id_fault
  fault_length h l = rw (← e, lt-ltb (hex_value b) 16 (omega (arith, f)), ne_eqb (length line) 16 l)

-- a byte of each kind
module _ (b : ℕ) where
  pub a_return : b ≡ 13 → 2 ≡ byte_fault b
  unfolding byte_fault
  a_return e = rw (eq-eqb b 13 e)

  pub a_control : b < 9 → 6 ≡ byte_fault b
  unfolding byte_fault
  a_control h = let n : eqb b 13 ≡ false = ne_eqb b 13 (λ e. omega arith) in rw (n, lt-ltb b 9 h)

  pub a_blank : (b ≡ 13 → ⊥) → 9 ≤ b → b ≤ 32 → 3 ≡ byte_fault b
  unfolding byte_fault
  a_blank n l h = rw (ne_eqb b 13 n, le-ltb b 9 l, le-leb b 32 h)

  pub a_sign : 32 < b → b < 0x41 → 6 ≡ byte_fault b
  unfolding byte_fault
  a_sign l h = let n : eqb b 13 ≡ false = ne_eqb b 13 (λ e. omega arith) in rw (n, le-ltb b 9 (omega arith), lt-leb b 32 l, lt-ltb b 0x41 h)

  pub a_capital : 0x41 ≤ b → b ≤ 0x46 → 4 ≡ byte_fault b
  unfolding byte_fault
  a_capital l h =
      let n : eqb b 13 ≡ false = ne_eqb b 13 (λ e. omega arith) in
      rw (n, le-ltb b 9 (omega arith), lt-leb b 32 (omega arith), le-ltb b 0x41 l, le-leb b 0x46 h)

  pub a_letter : 0x46 < b → b < 0x80 → 6 ≡ byte_fault b
  unfolding byte_fault
  a_letter l h =
      let n : eqb b 13 ≡ false = ne_eqb b 13 (λ e. omega arith) in
      rw (n, le-ltb b 9 (omega arith), lt-leb b 32 (omega arith), le-ltb b 0x41 (omega arith), lt-leb b 0x46 l, lt-ltb b 0x80 h)

  pub a_beyond : 0x80 ≤ b → 5 ≡ byte_fault b
  unfolding byte_fault
  a_beyond l =
      let n : eqb b 13 ≡ false = ne_eqb b 13 (λ e. omega arith) in
      rw (n, le-ltb b 9 (omega arith), lt-leb b 32 (omega arith), le-ltb b 0x41 (omega arith), lt-leb b 0x46 (omega arith), le-ltb b 0x80 l)
