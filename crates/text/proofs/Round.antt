-- What is written is read, and what is read was written. Assumes nothing.
use Prim.Native.Nat.{ℕ, ◌+◌, ◌*◌, ◌/◌, ◌%◌, ◌^◌, ◌≤◌, ◌<◌}
use mathlib.Core.Path.{◌≡◌, refl, sym, ap, ◌∙◌, subst}
use mathlib.Core.Logic.{◌⊎◌, inl, inr}
use mathlib.Core.List.{List, map}
use native.Mathlib.Nat.{add-zero, mul-mod_left}
use native.Mathlib.Omega.{arith}
use borrow.Author.Tests.{lt-leb, leb-false, eq-eqb, eqb-true}
use lib.Dec.{eqb, lit<}
use lib.ListN.{length}
use lib.Pow.{pow_pos, shl_lt, shr_lt, shl-shr, split}
use Rattle.wire.specs.Answer.{choose, done, refused}
use Rattle.wire.specs.Number.{digits, number, Digits, Bytes}
use Rattle.wire.proofs.Digits.{length_digits, digits_small, number_digits, digits_number, number_lt}
use Rattle.wire.proofs.Cases.{passed, escaped, done_value}
use Rattle.wire.specs.Every.{within}
use Rattle.text.specs.Text.{Form, kept, value, values, leftover, characters, filling, letter, text_of, read_values, read_text}
use Rattle.text.proofs.Forms.{Lawful}
use Rattle.text.proofs.Counts.{pow_pow, width_bounds, filling_lt, filled, leftover_is, characters_is}
use Rattle.text.proofs.Characters.{within_true, within_all, length_values, values_letters, letters_back}

-- characters of 5 or 6 bits hold fewer bytes than they are
bits_most : (w n m : ℕ) → (w ≡ 5) ⊎ (w ≡ 6) → n ≤ m → w * n / 8 ≤ m
bits_most w n m (inl e) h = rw e (omega arith)
bits_most w n m (inr e) h = rw e (omega arith)

module _ (f : Form) (law : Lawful f) where
  -- ---- written, then read

  module _ (bs : List ℕ) (all : Bytes bs) where
    -- the bytes and the filling as one number, which the characters hold
    shifted : ℕ
    shifted = number 256 bs * 2 ^ filling f (length bs)

    shifted_lt : shifted < (2 ^ f.width) ^ characters f (length bs)
    unfolding shifted
    shifted_lt =
        rw (pow_pow f.width (characters f (length bs)), filled f law (length bs))
        (shl_lt (8 * length bs) (filling f (length bs)) (rw (pow_pow 8 (length bs)) at (number_lt 256 bs (length bs) refl all)))

    written_values : List ℕ
    written_values = digits (2 ^ f.width) (characters f (length bs)) shifted

    read_values_lem : read_values f written_values ≡ done bs
    unfolding read_values written_values shifted
    read_values_lem =
        let n : ℕ = length bs in
        let c : ℕ = characters f n in
        let p : ℕ = filling f n in
        let l : p < f.width = filling_lt f law n in
        let h = leftover_is f law n c p (filled f law n) (omega (arith, width_bounds f law)) in
        rw (length_digits (2 ^ f.width) c shifted, number_digits (2 ^ f.width) c shifted (pow_pos f.width) shifted_lt, law.counts c, h.0, h.1, lt-leb f.width p l)
        (last (number 256 bs) p ∙ ap done (digits_number 256 bs n refl all))
      where
        last : (m p : ℕ) → choose (eqb (m * 2 ^ p % 2 ^ p) 0) (done (digits 256 (length bs) (m * 2 ^ p / 2 ^ p))) (refused 2) ≡ done (digits 256 (length bs) m)
        last m p = rw (eq-eqb (m * 2 ^ p % 2 ^ p) 0 (mul-mod_left m (2 ^ p)), shl-shr m p)

    pub read_written : read_text f (text_of f bs) ≡ done bs
    unfolding read_text text_of written_values shifted
    read_written =
        let small : Digits (2 ^ f.width) written_values = digits_small (2 ^ f.width) (characters f (length bs)) shifted (pow_pos f.width) in
        rw (values_letters f law written_values small, within_true (2 ^ f.width) written_values small) read_values_lem

  -- ---- read, then written

  -- the number of values whose leftover bits are zero is that of the bytes, moved up by the filling
  module _ (vs : List ℕ) (small : Digits (2 ^ f.width) vs) (n k : ℕ) (count : f.width * length vs ≡ 8 * n + k) (zeros : number (2 ^ f.width) vs % 2 ^ k ≡ 0) where
    whole : number 256 (digits 256 n (number (2 ^ f.width) vs / 2 ^ k)) * 2 ^ k ≡ number (2 ^ f.width) vs
    whole =
        let v : ℕ = number (2 ^ f.width) vs in
        let l : v < 2 ^ (8 * n + k) = rw (pow_pow f.width (length vs), count) at (number_lt (2 ^ f.width) vs (length vs) refl small) in
        let q : v / 2 ^ k < 256 ^ n = rw (pow_pow 8 n) (shr_lt (8 * n) k l) in
        ap (λ (m : ℕ). m * 2 ^ k) (number_digits 256 n (v / 2 ^ k) (lit< tt) q)
        ∙ sym (add-zero (v / 2 ^ k * 2 ^ k))
        ∙ ap (λ (m : ℕ). v / 2 ^ k * 2 ^ k + m) (sym zeros)
        ∙ split v k

  values_written : (vs bs : List ℕ) → Digits (2 ^ f.width) vs → read_values f vs ≡ done bs
      → (digits (2 ^ f.width) (characters f (length bs)) (number 256 bs * 2 ^ filling f (length bs)) ≡ vs) × Bytes bs
  unfolding read_values leftover
  values_written vs bs small h =
      let w : ℕ = f.width in
      let v : ℕ = number (2 ^ w) vs in
      let n : ℕ = w * length vs / 8 in
      let k : ℕ = leftover f (length vs) in
      let a = escaped (f.impossible (length vs)) _ 2 h in
      let b = passed (eqb (v % 2 ^ k) 0) (done (digits 256 n (v / 2 ^ k))) 2 a.1 in
      let l : k < w = leb-false w k (sym (law.counts (length vs)) ∙ a.0) in
      let count : w * length vs ≡ 8 * n + k = omega arith in
      let e : bs ≡ digits 256 n (v / 2 ^ k) = sym (done_value b.1) in
      let c = characters_is f law n (length vs) k count l in
      let m : length bs ≡ n = ap length e ∙ length_digits 256 n (v / 2 ^ k) in
      let z : v % 2 ^ k ≡ 0 = eqb-true (v % 2 ^ k) 0 b.0 in (
        rw (m, c.0, c.1, e, whole vs small n k count z) (digits_number (2 ^ w) vs (length vs) refl small),
        rw e (digits_small 256 n (v / 2 ^ k) (lit< tt)),
      )

  pub written_read : (cs bs : List ℕ) → read_text f cs ≡ done bs → (kept f cs ≡ text_of f bs) × Bytes bs
  unfolding read_text text_of values
  written_read cs bs h =
      let vs : List ℕ = map (value f) (kept f cs) in
      let a = passed (within (2 ^ f.width) vs) (read_values f vs) 1 h in
      let small : Digits (2 ^ f.width) vs = within_all (2 ^ f.width) vs (pow_pos f.width) a.0 in
      let b = values_written vs bs small a.1 in
      (sym (ap (map (letter f)) b.0 ∙ letters_back f law (kept f cs) small), b.1)

  -- ---- what is read has no more bytes than the text has characters

  text_digits : (cs bs : List ℕ) → read_text f cs ≡ done bs → (k : ℕ) × (n : ℕ) × (k ≤ length cs) × (digits 256 k n ≡ bs)
  unfolding read_text read_values
  text_digits cs bs h =
      let vs : List ℕ = values f cs in
      let p = passed (within (2 ^ f.width) vs) _ 1 h in
      let q = escaped (f.impossible (length vs)) _ 2 p.1 in
      let r = passed (eqb (number (2 ^ f.width) vs % 2 ^ leftover f (length vs)) 0) _ 2 q.1 in (
        f.width * length vs / 8,
        number (2 ^ f.width) vs / 2 ^ leftover f (length vs),
        bits_most f.width (length vs) (length cs) law.narrow (length_values f cs),
        done_value r.1,
      )

  pub text_short : (cs bs : List ℕ) → read_text f cs ≡ done bs → length bs ≤ length cs
  text_short cs bs h = let (k, n, l, e) = text_digits cs bs h in omega (arith, ap length e, length_digits 256 k n)

  pub text_bytes : (cs bs : List ℕ) → read_text f cs ≡ done bs → Bytes bs
  text_bytes cs bs h = let (k, n, l, e) = text_digits cs bs h in subst Bytes e (digits_small 256 k n (omega arith))
