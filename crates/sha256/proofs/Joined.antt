-- The digest: words as bytes. Assumes nothing.
use Rattle.std.proofs.lemmas.List.{append_assoc, append-nil}
use Rattle.std.proofs.lemmas.Slice.{take-put_mid}
use Rattle.std.specs.Int.{w32, to_be_bytes}
use borrow.Rule.Slice.PartMut.{put_mid}
use mathlib.Core.Path.{◌≡◌, refl, sym, ap, ap₂, ◌∙◌}
use mathlib.Core.Logic.{⊎_elim}
use mathlib.Core.List.{List, [], ◌∷◌, ◌++◌}
use Prim.Native.Nat.{ℕ, suc, ◌+◌, ◌-◌, ◌*◌, ◌/◌, ◌%◌, ◌^◌, ◌≤◌, ◌<◌}
use native.Mathlib.Nat.{mod-lt}
use native.Mathlib.Omega.{arith}
use lib.Dec.{lit<}
use native.Mathlib.Numerals.{add-one}
use lib.ListN.{length, get_or, take, length-append, get_or-append, get_or-eq_default}
use lib.Seq.{get_or-append-add, take-suc}
use Rattle.wire.specs.Number.{digits, big_endian, Bytes}
use Rattle.wire.proofs.Cases.{lt_or_le}
use Rattle.wire.proofs.Digits.{length_digits, digits_at}
use Rattle.sha256.specs.Sha.{listed, joined, sha256}

pub four_bytes : (n : ℕ) → to_be_bytes w32 n ≡ big_endian 4 n
unfolding digits
four_bytes n =
    let a : n / 256 ^ 3 % 256 ≡ n / 256 / 256 / 256 % 256 = omega arith in
    let b : n / 256 ^ 2 % 256 ≡ n / 256 / 256 % 256 = omega arith in
    cc

pub joined_length : (ws : List ℕ) → length (joined ws) ≡ length ws * 4
unfolding joined
joined_length [] = refl
joined_length (x ∷ ws) =
    let e = length-append (big_endian 4 x) (joined ws) in
    omega (arith, length_digits 256 4 x, joined_length ws)

pub joined_append : (xs ys : List ℕ) → joined (xs ++ ys) ≡ joined xs ++ joined ys
unfolding joined
joined_append [] ys = refl
joined_append (x ∷ xs) ys = ap (λ (l : List ℕ). big_endian 4 x ++ l) (joined_append xs ys) ∙ sym (append_assoc (big_endian 4 x) (joined xs) (joined ys))

-- a turn of the loop: the four bytes of word i are written
pub joined_more : (d ws y : List ℕ) (i k : ℕ) → i < length ws → 4 * i ≤ length d → take (4 * i) d ≡ joined (take i ws)
    → y ≡ to_be_bytes w32 (get_or ws i 0) → take (4 * (i + 1)) (put_mid (4 * i) k d y) ≡ joined (take (i + 1) ws)
unfolding joined
joined_more d ws y i k h f e ey =
    let x : ℕ = get_or ws i 0 in
    let eb : y ≡ big_endian 4 x = ey ∙ four_bytes x in
    let ly : length y ≡ 4 = ap length eb ∙ length_digits 256 4 x in
    take-put_mid (4 * i) k d y (4 * (i + 1)) (omega arith) f
    ∙ ap₂ ◌++◌ e (eb ∙ sym (append-nil (big_endian 4 x)))
    ∙ sym (joined_append (take i ws) (x ∷ []))
    ∙ ap joined (sym (take-suc ws i 0 h) ∙ ap (λ (n : ℕ). take n ws) (sym (add-one i)))

module _ (x : ℕ) (ws : List ℕ) (i : ℕ) where
  first_word : i < 4 → get_or (joined (x ∷ ws)) i 0 ≡ get_or (x ∷ ws) (i / 4) 0 / 2 ^ (8 * (3 - i % 4)) % 2 ^ 8
  unfolding joined
  first_word l =
      let q : i / 4 ≡ 0 = omega arith in
      let r : i % 4 ≡ i = omega arith in
      get_or-append (big_endian 4 x) (joined ws) 0 i (rw (length_digits 256 4 x) l) ∙ digits_at 8 4 x i l ∙ rw (q, r)

  later_word : 4 ≤ i → get_or (joined (x ∷ ws)) i 0 ≡ get_or (joined ws) (i - 4) 0
  unfolding joined
  later_word l =
      let e : i ≡ length (big_endian 4 x) + (i - 4) = omega (arith, length_digits 256 4 x) in
      ap (λ (k : ℕ). get_or (big_endian 4 x ++ joined ws) k 0) e ∙ get_or-append-add (big_endian 4 x) (joined ws) (i - 4) 0

pub joined_at : (ws : List ℕ) (i : ℕ) → i < length ws * 4 → get_or (joined ws) i 0 ≡ get_or ws (i / 4) 0 / 2 ^ (8 * (3 - i % 4)) % 2 ^ 8
joined_at [] i h = absurd (omega arith)
joined_at (x ∷ ws) i h =
    ⊎_elim (first_word x ws i)
    (λ l.
    let q : i / 4 ≡ suc ((i - 4) / 4) = omega arith in
    let r : i % 4 ≡ (i - 4) % 4 = omega arith in
    later_word x ws i l ∙ joined_at ws (i - 4) (omega arith) ∙ rw (q, r))
    (lt_or_le i 4)

joined_bytes : (ws : List ℕ) → Bytes (joined ws)
joined_bytes ws i = ⊎_elim inside past (lt_or_le i (length ws * 4))
  where
    inside : i < length ws * 4 → get_or (joined ws) i 0 < 256
    inside h = rw (joined_at ws i h) (mod-lt (get_or ws (i / 4) 0 / 2 ^ (8 * (3 - i % 4))) (lit< tt))

    past : length ws * 4 ≤ i → get_or (joined ws) i 0 < 256
    past h =
        let l : length (joined ws) ≤ i = rw (joined_length ws) h in
        rw (get_or-eq_default (joined ws) 0 l) (lit< tt)

-- For the reader: a digest is 32 numbers,
pub digest_length : (bs : List ℕ) → length (sha256 bs) ≡ 32
unfolding sha256 listed
digest_length bs = rw joined_length

-- For the reader: each of them a byte
pub digest_bytes : (bs : List ℕ) → Bytes (sha256 bs)
unfolding sha256
digest_bytes bs = joined_bytes _
