-- What is written reads back, and what is read was written: one form for each number.
-- Assumes nothing.
use Prim.Native.Nat.{ℕ, zero, suc, ◌+◌, ◌-◌, ◌*◌, ◌/◌, ◌%◌, ◌^◌, ◌<◌, ◌≤◌}
use mathlib.Core.Path.{◌≡◌, refl, sym, ap, ap₂, ◌∙◌}
use mathlib.Core.Logic.{⊎_elim}
use mathlib.Core.List.{List, [], ◌∷◌, ◌++◌}
use mathlib.Core.Bool.{Bool, true, false}
use native.Mathlib.Nat.{pow-suc, one-le-pow}
use native.Mathlib.Omega.{arith}
use borrow.Author.Tests.{lt-ltb, le-ltb, ne_eqb, ltb-true, ltb-false, eqb-false}
use lib.Dec.{ltb, eqb, lit<}
use lib.ListN.{length, drop, length-append, length-drop}
use lib.Seq.{drop_at, get_or-drop}
use Rattle.wire.specs.Answer.{choose, done, refused_at, Got, got}
use Rattle.wire.specs.Number.{Bytes}
use Rattle.wire.proofs.Cases.{lt_or_le, not_done, escaped, got_value, got_next}
use Rattle.wire.proofs.Standing.{Stands, stands_at, stands_as}
use Rattle.varint.specs.Varint.{sevens, varint, onto, ending, tenth, later_from, varint_from, varint_at}
use Rattle.varint.proofs.Sevens.{sevens_last, sevens_more, sevens_ind}
use Rattle.varint.proofs.Lengths.{varint_length}

-- ---- what is written reads back

-- one byte more in front
byte_back : (n i k : ℕ) → onto ((n % 128 + 128) % 128) 128 (got (n / 128) (i + 1 + k)) ≡ got n (i + suc k)
byte_back n i k =
    let v : (n % 128 + 128) % 128 + 128 * (n / 128) ≡ n = omega arith in
    let p : i + 1 + k ≡ i + suc k = omega arith in
    ap₂ got v p

last_back : (p n i : ℕ) (rest : List ℕ) → n < 128 → 0 < n → n < 2 * 128 ^ p → later_from p i (n ∷ rest) ≡ got n (i + 1)
unfolding later_from tenth ending
last_back zero n i rest h z l = let e : n ≡ 1 = omega arith in rw e
last_back (suc p) n i rest h z l = simp (lt-ltb n 128 h, ne_eqb n 0 (omega arith))

later_back : (p n i : ℕ) (rest : List ℕ) → 0 < n → n < 2 * 128 ^ p → later_from p i (sevens p n ++ rest) ≡ got n (i + length (sevens p n))
unfolding later_from
later_back =
    sevens_ind (λ (p n : ℕ) (bs : List ℕ). (i : ℕ) (rest : List ℕ) → 0 < n → n < 2 * 128 ^ p → later_from p i (bs ++ rest) ≡ got n (i + length bs))
    (λ p n h i rest z l. last_back p n i rest h z l)
    (λ n h i rest z l. absurd (omega arith))
    (λ p n h ih i rest z l.
    simp (le-ltb (n % 128 + 128) 128 (omega arith), ih (i + 1) rest (omega arith) (omega (arith, pow-suc 128 p))) (byte_back n i (length (sevens p (n / 128)))))

from_back : (n i : ℕ) (rest : List ℕ) → n < 2 ^ 64 → varint_from i (varint n ++ rest) ≡ got n (i + length (varint n))
unfolding varint varint_from
from_back n i rest l = ⊎_elim one more (lt_or_le n 128)
  where
    one : n < 128 → varint_from i (sevens 9 n ++ rest) ≡ got n (i + length (sevens 9 n))
    one h = simp (sevens_last 9 n h, lt-ltb n 128 h)

    more : 128 ≤ n → varint_from i (sevens 9 n ++ rest) ≡ got n (i + length (sevens 9 n))
    more h =
        simp (sevens_more 8 n h, le-ltb (n % 128 + 128) 128 (omega arith), later_back 8 (n / 128) (i + 1) rest (omega arith) (omega arith))
        (byte_back n i (length (sevens 8 (n / 128))))

-- a number that was written reads back, whatever follows it
pub reads_at : (s rest : List ℕ) (at n : ℕ) → n < 2 ^ 64 → drop at s ≡ varint n ++ rest → varint_at s at ≡ got n (at + length (varint n))
unfolding varint_at
reads_at s rest at n l e = ap (varint_from at) e ∙ from_back n at rest l

-- For the reader: a number that was written reads back, whatever stands before it and follows it
pub reads_back : (before rest : List ℕ) (at n : ℕ) → n < 2 ^ 64 → at ≡ length before → varint_at (before ++ (varint n ++ rest)) at ≡ got n (at + length (varint n))
reads_back before rest at n l e = reads_at (before ++ (varint n ++ rest)) rest at n l (drop_at before (varint n ++ rest) at (sym e))

-- ---- what is read was written

-- a list that stands at position i starts with the bytes `form`, which end before position next
record Starts (bs form : List ℕ) (i next : ℕ) : Type 0 where
  rest : List ℕ
  front : bs ≡ form ++ rest
  ends : next ≡ i + length form

ending_got : (b i n next : ℕ) → ending b i ≡ got n next → (0 < b) × (b ≡ n) × (i ≡ next)
unfolding ending
ending_got b i n next h =
    let t = escaped (eqb b 0) (got b i) 7 h in
    let z = eqb-false b 0 t.0 in
    (omega arith, got_value t.1, got_next t.1)

onto_got : (a w : ℕ) (g : Got ℕ) (n next : ℕ) → onto a w g ≡ got n next → (v : ℕ) × (g ≡ got v next) × (n ≡ a + w * v)
onto_got a w (done (v, k)) n next h = (v, ap (got v) (got_next h), sym (got_value h))
onto_got a w (refused_at e place) n next h = not_done h

module _ (p i b n next : ℕ) (bs : List ℕ) where
  -- a last byte is the number
  starts_last : b < 128 → b ≡ n → i + 1 ≡ next → Starts (b ∷ bs) (sevens p n) i next
  starts_last l e k =
      let f : sevens p n ≡ b ∷ [] = sevens_last p n (omega arith) ∙ ap (λ (x : ℕ). x ∷ []) (sym e) in
      record { rest = bs; front = rw f; ends = rw f (sym k) }

  -- a byte before those of v
  starts_more : (v : ℕ) → 128 ≤ b → b < 256 → n ≡ b % 128 + 128 * v → 0 < v → Starts bs (sevens p v) (i + 1) next → Starts (b ∷ bs) (sevens (suc p) n) i next
  starts_more v lo hi e pos s =
      let q : n / 128 ≡ v = omega arith in
      let m : n % 128 + 128 ≡ b = omega arith in
      let f : sevens (suc p) n ≡ b ∷ sevens p v = sevens_more p n (omega arith) ∙ rw (q, m) in
      record { rest = s.rest; front = rw f (ap (λ (x : List ℕ). b ∷ x) s.front); ends = rw f (omega (arith, s.ends)) }

-- what the bytes after the first say: a number above 0 that fits, in its own form
Later : ℕ → ℕ → List ℕ → ℕ → ℕ → Type 0
Later p i bs n next = Starts bs (sevens p n) i next × (0 < n) × (n < 2 * 128 ^ p)

later_was : (p i : ℕ) (bs : List ℕ) (n next : ℕ) → Bytes bs → later_from p i bs ≡ got n next → Later p i bs n next
unfolding later_from tenth Later
later_was p i [] n next y h = not_done h
later_was zero i (b ∷ bs) n next y h =
    let t = escaped (ltb 1 b) (ending b (i + 1)) 7 h in
    let l = ltb-false 1 b t.0 in
    let r = ending_got b (i + 1) n next t.1 in
    (starts_last zero i b n next bs (omega arith) r.1 r.2, omega arith, omega arith)
later_was (suc p) i (b ∷ bs) n next y h = go (ltb b 128) refl (later_was p (i + 1) bs) h
  where
    go : (t : Bool) → ltb b 128 ≡ t → ((v k : ℕ) → Bytes bs → later_from p (i + 1) bs ≡ got v k → Later p (i + 1) bs v k)
        → choose t (ending b (i + 1)) (onto (b % 128) 128 (later_from p (i + 1) bs)) ≡ got n next → Later (suc p) i (b ∷ bs) n next
    go true e ih h =
        let l = ltb-true b 128 e in
        let r = ending_got b (i + 1) n next h in
        (starts_last (suc p) i b n next bs l r.1 r.2, omega arith, omega (arith, pow-suc 128 p, one-le-pow p 128 (lit< tt)))
    go false e ih h =
        let l = ltb-false b 128 e in
        let t = onto_got (b % 128) 128 (later_from p (i + 1) bs) n next h in
        let r = ih t.0 next (λ (j : ℕ). y (suc j)) t.1 in
        (starts_more p i b n next bs t.0 l (y 0) t.2 r.1 r.0, omega (arith, t.2), omega (arith, pow-suc 128 p, t.2))

from_was : (i : ℕ) (bs : List ℕ) (n next : ℕ) → Bytes bs → varint_from i bs ≡ got n next → Starts bs (varint n) i next × (n < 2 ^ 64)
unfolding varint_from varint Later
from_was i [] n next y h = not_done h
from_was i (b ∷ bs) n next y h = go (ltb b 128) refl h
  where
    go : (t : Bool) → ltb b 128 ≡ t → choose t (got b (i + 1)) (onto (b % 128) 128 (later_from 8 (i + 1) bs)) ≡ got n next → Starts (b ∷ bs) (sevens 9 n) i next × (n < 2 ^ 64)
    go true e h =
        let l = ltb-true b 128 e in
        (starts_last 9 i b n next bs l (got_value h) (got_next h), omega (arith, got_value h))
    go false e h =
        let l = ltb-false b 128 e in
        let t = onto_got (b % 128) 128 (later_from 8 (i + 1) bs) n next h in
        let r = later_was 8 (i + 1) bs t.0 next (λ (j : ℕ). y (suc j)) t.1 in
        (starts_more 8 i b n next bs t.0 l (y 0) t.2 r.1 r.0, omega (arith, t.2, r.2))

-- what is read is the written form of its value
pub read_stands : (s : List ℕ) (at v next : ℕ) → Bytes s → varint_at s at ≡ got v next → Stands s at (varint v) next × (v < 2 ^ 64)
unfolding varint_at
read_stands s at v next y h =
    let t = from_was at (drop at s) v next (λ (j : ℕ). rw (get_or-drop at s j 0) (y (at + j))) h in
    let f = t.0 in
    let k : length s - at ≡ length (varint v) + length f.rest = sym (length-drop at s) ∙ ap length f.front ∙ length-append (varint v) f.rest in
    (stands_as refl (sym f.ends) (stands_at s at (varint v) f.rest (omega (arith, varint_length v)) f.front), t.1)
