-- Bytes in hex: as the loops write and read them, and that what is written reads back.
-- Assumes nothing.
use mathlib.Core.Path.{◌≡◌, refl, sym, ap, ◌∙◌}
use mathlib.Core.Logic.{⊎_elim}
use mathlib.Core.Bool.{Bool, true, false, not, ◌&&◌}
use mathlib.Core.List.{List, [], ◌∷◌, ◌++◌}
use Prim.Native.Nat.{ℕ, zero, suc, ◌+◌, ◌-◌, ◌*◌, ◌/◌, ◌%◌, ◌≤◌, ◌<◌}
use native.Mathlib.Numerals.{add-one}
use native.Mathlib.Omega.{arith}
use borrow.Author.Tests.{le-leb, lt-leb, lt-ltb, le-ltb, ltb-true, eq-eqb, ne_eqb, not-true, not-false}
use mir.Syntax.{w8}
use mir.Val.{Fits}
use lib.Dec.{ltb, eqb}
use lib.ListN.{length, take, get_or, set, length-set}
use lib.Seq.{take_all, take-suc, length-take-le}
use Rattle.std.specs.Prelude.{Ok, Err}
use Rattle.std.specs.List.{list_all}
use Rattle.wire.specs.Answer.{done}
use Rattle.wire.specs.Every.{every}
use Rattle.wire.specs.Number.{Bytes}
use Rattle.wire.specs.Over.{over}
use Rattle.wire.specs.Writing.{Written}
use Rattle.wire.specs.declared.Refusal.TheVariants.{NoRoom, OutOfRange}
use Rattle.wire.proofs.Cases.{lt_or_le, both_hold, passed, done_value}
use Rattle.wire.proofs.Overs.{over_none, over_out, over_then, over_next}
use Rattle.wire.proofs.Writes.{written, no_room, denied}
use Rattle.digits.specs.Hex.{hex_digit, hex_of, hex_value, all_hex, hex_bytes, hex_verdict}

-- ---- a digit

module _ (d : ℕ) where
  pub figure_written : d < 10 → 0x30 + d ≡ hex_digit d
  unfolding hex_digit
  figure_written h = rw (lt-ltb d 10 h)

  pub letter_written : 10 ≤ d → 97 + (d - 10) ≡ hex_digit d
  unfolding hex_digit
  letter_written h = rw (le-ltb d 10 h) (omega arith)

module _ (b : ℕ) where
  pub below_figures : b < 0x30 → (◌≡◌ {A = ℕ} 16 (hex_value b)) × (◌≤◌ 16 16)
  unfolding hex_value
  below_figures h = (rw (lt-leb 0x30 b h, lt-leb 0x61 b (omega arith)), omega arith)

  pub figure : 0x30 ≤ b → b ≤ 0x39 → (b - 0x30 ≡ hex_value b) × (b - 0x30 ≤ 16)
  unfolding hex_value
  figure h k = (rw (le-leb 0x30 b h, le-leb b 0x39 k), omega arith)

  pub between : 0x39 < b → b < 0x61 → (◌≡◌ {A = ℕ} 16 (hex_value b)) × (◌≤◌ 16 16)
  unfolding hex_value
  between h k = (rw (le-leb 0x30 b (omega arith), lt-leb b 0x39 h, lt-leb 0x61 b k), omega arith)

  pub a_letter : 0x61 ≤ b → b ≤ 0x66 → (b - 0x61 + 10 ≡ hex_value b) × (b - 0x61 + 10 ≤ 16)
  unfolding hex_value
  a_letter h k = (rw (le-leb 0x30 b (omega arith), lt-leb b 0x39 (omega arith), le-leb 0x61 b h, le-leb b 0x66 k) (omega arith), omega arith)

  pub above_letters : 0x66 < b → (◌≡◌ {A = ℕ} 16 (hex_value b)) × (◌≤◌ 16 16)
  unfolding hex_value
  above_letters h = (rw (le-leb 0x30 b (omega arith), lt-leb b 0x39 (omega arith), le-leb 0x61 b (omega arith), lt-leb b 0x66 h), omega arith)

-- ---- written

hex_append : (xs ys : List ℕ) → hex_of (xs ++ ys) ≡ hex_of xs ++ hex_of ys
unfolding hex_of
hex_append [] ys = refl
hex_append (x ∷ xs) ys = ap (λ (r : List ℕ). hex_digit (x / 16) ∷ hex_digit (x % 16) ∷ r) (hex_append xs ys)

pub hex_length : (bs : List ℕ) → length (hex_of bs) ≡ 2 * length bs
unfolding hex_of
hex_length [] = refl
hex_length (b ∷ bs) = ap (λ (n : ℕ). suc (suc n)) (hex_length bs) ∙ omega arith

hex_next : (bs : List ℕ) (i : ℕ) → i < length bs → hex_of (take (i + 1) bs) ≡ hex_of (take i bs) ++ hex_of (get_or bs i 0 ∷ [])
hex_next bs i h = rw (add-one i, take-suc bs i 0 h) (hex_append (take i bs) (get_or bs i 0 ∷ []))

-- the digits of the first i bytes stand in x from index at on
pub record Hexed (at : ℕ) (bs l : List ℕ) (i : ℕ) (x : List ℕ) : Type 0 where
  pub most : i ≤ length bs
  pub size : length x ≡ length l
  pub stands : x ≡ over at (hex_of (take i bs)) l

module _ (at : ℕ) (bs l : List ℕ) where
  pub hexed_none : Hexed at bs l 0 l
  unfolding hex_of
  hexed_none = record { most = omega arith; size = refl; stands = sym (over_none at l) }

  pub hexed_on : (i : ℕ) (two x y : List ℕ) → at + 2 * length bs ≤ length l → i < length bs → two ≡ hex_of (get_or bs i 0 ∷ [])
      → length y ≡ length x → y ≡ over (at + 2 * i) two x → Hexed at bs l i x → Hexed at bs l (i + 1) y
  hexed_on i two x y room h p same e g =
      let n : length (hex_of (take i bs)) ≡ 2 * i = hex_length (take i bs) ∙ rw (length-take-le i bs g.most) in
      let k : length two ≡ 2 = ap length p ∙ hex_length (get_or bs i 0 ∷ []) in
      record {
        most = omega arith;
        size = same ∙ g.size;
        stands = rw (hex_next bs i h, ← p) (over_then at (at + 2 * i) (hex_of (take i bs)) two l x y e g.stands (omega arith) (omega arith));
      }

  none : (two : List ℕ) → [] ≡ take 0 two
  none [] = refl
  none (b ∷ bs) = refl

  -- the two digits put one by one
  two_put : (p : ℕ) (two x : List ℕ) → length two ≡ 2 → p + 2 ≤ length x → set (set x p (get_or two 0 0)) (p + 1) (get_or two 1 0) ≡ over p two x
  two_put p two x k room =
      let first : set x p (get_or two 0 0) ≡ over p (take 1 two) x =
      ap (λ (r : List ℕ). set r p (get_or two 0 0)) (sym (over_none p x))
      ∙ ap (λ (s : List ℕ). set (over p s x) p (get_or two 0 0)) (none two)
      ∙ ap (λ (k : ℕ). set (over p (take 0 two) x) k (get_or two 0 0)) (omega arith)
      ∙ over_next p two x 0 (omega arith) (omega arith) in
      ap (λ (r : List ℕ). set r (p + 1) (get_or two 1 0)) first
      ∙ over_next p two x 1 (omega arith) (omega arith)
      ∙ ap (λ (r : List ℕ). over p r x) (take_all 2 two (omega arith))

  pub hexed_put : (i : ℕ) (two x : List ℕ) → at + 2 * length bs ≤ length l → i < length bs → two ≡ hex_of (get_or bs i 0 ∷ [])
      → Hexed at bs l i x → Hexed at bs l (i + 1) (set (set x (at + 2 * i) (get_or two 0 0)) (at + 2 * i + 1) (get_or two 1 0))
  hexed_put i two x room h p g =
      let k : length two ≡ 2 = ap length p ∙ hex_length (get_or bs i 0 ∷ []) in
      hexed_on i two x (set (set x (at + 2 * i) (get_or two 0 0)) (at + 2 * i + 1) (get_or two 1 0)) room h p
      (length-set (set x (at + 2 * i) (get_or two 0 0)) (at + 2 * i + 1) (get_or two 1 0) ∙ length-set x (at + 2 * i) (get_or two 0 0))
      (two_put (at + 2 * i) two x k (omega (arith, g.size))) g

  pub hexed_end : (i : ℕ) (x : List ℕ) → length bs ≤ i → Hexed at bs l i x → x ≡ over at (hex_of bs) l
  hexed_end i x h g = g.stands ∙ rw (take_all i bs h)

-- digits that do not fit change nothing
pub hex_out : (at : ℕ) (bs l : List ℕ) → length l < at + 2 * length bs → l ≡ over at (hex_of bs) l
hex_out at bs l h = sym (over_out at (hex_of bs) l (omega (arith, hex_length bs)))

-- ---- judged, digit by digit

same_all : (test : ℕ → Bool) (xs : List ℕ) → list_all test xs ≡ every test xs
unfolding every
same_all test [] = refl
same_all test (x ∷ xs) = ap (λ (t : Bool). test x && t) (same_all test xs)

-- what the library's `all` answers
pub all_every : (test : ℕ → Bool) (xs : List ℕ) (r : Bool) → r ≡ list_all test xs → r ≡ every test xs
all_every test xs r e = e ∙ same_all test xs

hex_at : (s : List ℕ) (i : ℕ) → all_hex s ≡ true → i < length s → hex_value (get_or s i 0) < 16
unfolding every
hex_at [] i e h = absurd (omega arith)
hex_at (b ∷ bs) zero e h = ltb-true (hex_value b) 16 (both_hold (ltb (hex_value b) 16) (all_hex bs) e).0
hex_at (b ∷ bs) (suc i) e h = hex_at bs i (both_hold (ltb (hex_value b) 16) (all_hex bs) e).1 (omega arith)

-- ---- read, two digits a turn

pub bytes_length : (s : List ℕ) → length (hex_bytes s) ≡ length s / 2
unfolding hex_bytes
bytes_length [] = omega arith
bytes_length (h ∷ []) = omega arith
bytes_length (h ∷ l ∷ s) = ap suc (bytes_length s) ∙ omega arith

byte_at : (s : List ℕ) (i : ℕ) → i < length s / 2 → get_or (hex_bytes s) i 0 ≡ hex_value (get_or s (2 * i) 0) * 16 + hex_value (get_or s (2 * i + 1) 0)
unfolding hex_bytes
byte_at [] i h = absurd (omega arith)
byte_at (h ∷ []) i t = absurd (omega arith)
byte_at (h ∷ l ∷ s) zero t = refl
byte_at (h ∷ l ∷ s) (suc i) t =
    let later : (j k : ℕ) → j ≡ suc (suc k) → get_or (h ∷ l ∷ s) j 0 ≡ get_or s k 0 = λ j k e. ap (λ (m : ℕ). get_or (h ∷ l ∷ s) m 0) e in
    cc (byte_at s i (omega arith), later (2 * suc i) (2 * i) (omega arith), later (2 * suc i + 1) (2 * i + 1) (omega arith))

-- the first i bytes stand in front of x
pub record Gone (s l : List ℕ) (i : ℕ) (x : List ℕ) : Type 0 where
  pub most : i ≤ length s / 2
  pub size : length x ≡ length l
  pub stands : x ≡ over 0 (take i (hex_bytes s)) l

module _ (s l : List ℕ) where
  pub gone_none : Gone s l 0 l
  gone_none = record { most = omega arith; size = refl; stands = sym (over_none 0 l) }

  module _ (i a b : ℕ) (e : all_hex s ≡ true) (h : i < length s / 2) (p : a ≡ hex_value (get_or s (2 * i) 0)) where
    pub high_fits : Fits w8 (a * 16)
    high_fits = record { fits = omega (arith, hex_at s (2 * i) e (omega arith)) }

    module _ (q : b ≡ hex_value (get_or s (2 * i + 1) 0)) where
      pub byte_fits : Fits w8 (a * 16 + b)
      byte_fits = record { fits = omega (arith, hex_at s (2 * i) e (omega arith), hex_at s (2 * i + 1) e (omega arith)) }

      pub gone_on : (x : List ℕ) → length s / 2 ≤ length l → Gone s l i x → Gone s l (i + 1) (set x i (a * 16 + b))
      gone_on x room g =
          let v : a * 16 + b ≡ get_or (hex_bytes s) i 0 = rw (p, q) (sym (byte_at s i h)) in
          let z : 0 + i ≡ i = omega arith in
          let n = rw z at (over_next 0 (hex_bytes s) l i (omega (arith, bytes_length s)) (omega (arith, bytes_length s))) in
          record {
            most = omega arith;
            size = length-set x i (a * 16 + b) ∙ g.size;
            stands = ap (λ (r : List ℕ). set r i (a * 16 + b)) g.stands ∙ rw v n;
          }

  pub gone_end : (i : ℕ) (x : List ℕ) → length s / 2 ≤ i → Gone s l i x → x ≡ over 0 (hex_bytes s) l
  gone_end i x h g = g.stands ∙ rw (take_all i (hex_bytes s) (omega (arith, bytes_length s)))

-- ---- the answer

module _ (s x : List ℕ) where
  pub read_odd : (length s % 2 ≡ 0 → ⊥) → Written 0 (hex_verdict s) x x (Err OutOfRange)
  unfolding hex_verdict
  read_odd h = rw (ne_eqb (length s % 2) 0 h) (denied 0 x OutOfRange)

  module _ (l : length s % 2 ≡ 0) (r : Bool) (p : r ≡ all_hex s) where
    pub read_other : not r ≡ true → Written 0 (hex_verdict s) x x (Err OutOfRange)
    unfolding hex_verdict
    read_other q = let e : all_hex s ≡ false = sym p ∙ not-true r q in rw (eq-eqb (length s % 2) 0 l, e) (denied 0 x OutOfRange)

    module _ (q : not r ≡ false) where
      pub digits_all : all_hex s ≡ true
      digits_all = sym p ∙ not-false r q

      judged : hex_verdict s ≡ done (hex_bytes s)
      unfolding hex_verdict
      judged = rw (eq-eqb (length s % 2) 0 l, digits_all)

      pub read_short : length x < length s / 2 → Written 0 (hex_verdict s) x x (Err NoRoom)
      read_short h = rw judged (no_room 0 x (hex_bytes s) (omega (arith, bytes_length s)))

      pub read_done : (z : List ℕ) → length s / 2 ≤ length x → z ≡ over 0 (hex_bytes s) x → Written 0 (hex_verdict s) x z (Ok (length s / 2))
      read_done z h o = rw judged (written 0 x (hex_bytes s) z (length s / 2) (omega (arith, bytes_length s)) (sym (bytes_length s)) o)

-- how many bytes were read
pub read_length : (s bs : List ℕ) → hex_verdict s ≡ done bs → length bs ≡ length s / 2
unfolding hex_verdict
read_length s bs h = sym (ap length (done_value (passed (eqb (length s % 2) 0 && all_hex s) (done (hex_bytes s)) 19 h).1)) ∙ bytes_length s

-- ---- what is written reads back

digit_back : (d : ℕ) → d < 16 → hex_value (hex_digit d) ≡ d
digit_back d h =
    ⊎_elim (λ l. ap hex_value (sym (figure_written d l)) ∙ sym (figure (0x30 + d) (omega arith) (omega arith)).0 ∙ omega arith)
    (λ l. ap hex_value (sym (letter_written d l)) ∙ sym (a_letter (97 + (d - 10)) (omega arith) (omega arith)).0 ∙ omega arith)
    (lt_or_le d 10)

bytes_back : (bs : List ℕ) → Bytes bs → (all_hex (hex_of bs) ≡ true) × (hex_bytes (hex_of bs) ≡ bs)
unfolding every hex_of hex_bytes
bytes_back [] all = (refl, refl)
bytes_back (b ∷ bs) all =
    let h : b < 256 = all 0 in
    let high : hex_value (hex_digit (b / 16)) ≡ b / 16 = digit_back (b / 16) (omega arith) in
    let low : hex_value (hex_digit (b % 16)) ≡ b % 16 = digit_back (b % 16) (omega arith) in
    let rest = bytes_back bs (λ i. all (suc i)) in
    let whole : b / 16 * 16 + b % 16 ≡ b = omega arith in
    (rw (high, low, lt-ltb (b / 16) 16 (omega arith), lt-ltb (b % 16) 16 (omega arith)) rest.0, rw (high, low, whole, rest.1))

pub hex_back : (bs : List ℕ) → Bytes bs → hex_verdict (hex_of bs) ≡ done bs
unfolding hex_verdict
hex_back bs all =
    let e : length (hex_of bs) % 2 ≡ 0 = rw (hex_length bs) (omega arith) in
    let w = bytes_back bs all in
    rw (eq-eqb (length (hex_of bs) % 2) 0 e, w.0, w.1)
