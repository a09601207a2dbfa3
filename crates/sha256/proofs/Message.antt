-- The padded message, and the blocks of a message that is read in two parts.
-- Assumes nothing.
use Rattle.std.proofs.Common.{rules}
use Rattle.std.proofs.lemmas.List.{drop-replicate, take-replicate, set_at, append_assoc}
use Rattle.std.proofs.lemmas.Slice.{take-put_mid, overwrites}
use Rattle.std.specs.Int.{w64, to_be_bytes}
use borrow.Rule.Slice.PartMut.{put_mid}
use mathlib.Core.Path.{◌≡◌, refl, sym, ap, ap₂, ◌∙◌}
use mathlib.Core.List.{List, ◌∷◌, ◌++◌}
use Prim.Native.Nat.{ℕ, zero, suc, ◌+◌, ◌-◌, ◌*◌, ◌/◌, ◌%◌, ◌^◌, ◌≤◌, ◌<◌}
use native.Mathlib.Nat.{add-zero, add-suc}
use native.Mathlib.Numerals.{add-one}
use native.Mathlib.Omega.{arith}
use lib.ListN.{length, get_or, set, take, drop, replicate, length-append, length-replicate, length-drop}
use lib.Seq.{take-append-add, drop-drop, drop-append-le, take-append-le}
use Rattle.wire.specs.Number.{digits, big_endian}
use Rattle.wire.proofs.Digits.{length_digits}
use Rattle.sha256.specs.declared.State.{State}
use Rattle.sha256.specs.Message.{zeros, pad, block}
use Rattle.sha256.specs.Constants.{start}
use Rattle.std.specs.Simd.{first_chunks}
use Rattle.bits.proofs.Chunks.{chunk}
use Rattle.sha256.specs.Sha.{compress, blocks, listed, joined, sha256}

-- ---- section 5.1.1: the zeros are the fewest with which the message, its mark and they leave 8
-- bytes to a multiple of 64
-- For the reader: so many fill it,
pub zeros_fill : (n : ℕ) → (n + 1 + zeros n) % 64 ≡ 56
unfolding zeros
zeros_fill n = omega arith

-- For the reader: and fewer do not
pub zeros_fewest : (n z : ℕ) → (n + 1 + z) % 64 ≡ 56 → zeros n ≤ z
unfolding zeros
zeros_fewest n z e = omega arith

-- what is left of the message past its whole blocks, padded, is one block or two
pub tail_fits : (n : ℕ) → n % 64 + 9 + zeros n ≤ 128
unfolding zeros
tail_fits n = omega arith

-- ---- the padded message
module _ (bs : List ℕ) where
  -- past the mark
  abbrev rest : List ℕ
  rest = replicate (zeros (length bs)) 0 ++ big_endian 8 (length bs * 8)

  pub pad_length : length (pad bs) ≡ length bs + zeros (length bs) + 9
  unfolding pad
  pad_length =
      let z : ℕ = zeros (length bs) in
      let e = length-append bs (0x80 ∷ rest) in
      let f = length-append (replicate z 0) (big_endian 8 (length bs * 8)) in
      omega (arith, e, f, length-replicate {A = ℕ} z 0, length_digits 256 8 (length bs * 8))

-- the message's length in bits, as the standard library writes the lowest 64 bits of it
length_bytes : (n : ℕ) → to_be_bytes w64 (n % 2 ^ 64) ≡ big_endian 8 n
unfolding digits
length_bytes n =
    let a : n % 2 ^ 64 % 256 ≡ n % 256 = omega arith in
    let b : n % 2 ^ 64 / 256 ^ 1 % 256 ≡ n / 256 % 256 = omega arith in
    let c : n % 2 ^ 64 / 256 ^ 2 % 256 ≡ n / 256 / 256 % 256 = omega arith in
    let d : n % 2 ^ 64 / 256 ^ 3 % 256 ≡ n / 256 / 256 / 256 % 256 = omega arith in
    let e : n % 2 ^ 64 / 256 ^ 4 % 256 ≡ n / 256 / 256 / 256 / 256 % 256 = omega arith in
    let f : n % 2 ^ 64 / 256 ^ 5 % 256 ≡ n / 256 / 256 / 256 / 256 / 256 % 256 = omega arith in
    let g : n % 2 ^ 64 / 256 ^ 6 % 256 ≡ n / 256 / 256 / 256 / 256 / 256 / 256 % 256 = omega arith in
    let h : n % 2 ^ 64 / 256 ^ 7 % 256 ≡ n / 256 / 256 / 256 / 256 / 256 / 256 / 256 % 256 = omega arith in
    cc

-- the buffer: p at its front, and the mark behind it
marked : (p : List ℕ) → length p < 128 → set (p ++ drop (length p) (replicate 128 0)) (length p) 0x80 ≡ p ++ 0x80 ∷ replicate (127 - length p) 0
marked p h =
    let e : 128 - length p ≡ suc (127 - length p) = omega arith in
    let z : drop (length p) (replicate 128 0) ≡ replicate (suc (127 - length p)) 0 = drop-replicate (length p) 128 0 ∙ ap (λ (n : ℕ). replicate n 0) e in
    ap (λ (l : List ℕ). set (p ++ l) (length p) 0x80) z ∙ set_at p 0 (replicate (127 - length p) 0) 0x80 (length p) refl

-- and the first bytes of it
marked_front : (p : List ℕ) (z n : ℕ) → n ≡ length p + suc z → n ≤ 128
    → take n (set (p ++ drop (length p) (replicate 128 0)) (length p) 0x80) ≡ p ++ 0x80 ∷ replicate z 0
marked_front p z n e h =
    ap (take n) (marked p (omega arith))
    ∙ ap (λ (k : ℕ). take k (p ++ 0x80 ∷ replicate (127 - length p) 0)) e
    ∙ take-append-add p (0x80 ∷ replicate (127 - length p) 0) (suc z)
    ∙ ap (λ (l : List ℕ). p ++ 0x80 ∷ l) (take-replicate z (127 - length p) 0 (omega arith))

-- the rest p of the message, the mark, zeros and the length
pub tail_filled : (s x p y : List ℕ) (at len k : ℕ) → at ≤ length s → at + len ≡ length s + zeros (length s) + 9 → len ≤ 128 → k ≡ 8
    → p ≡ drop at s → x ≡ p → y ≡ to_be_bytes w64 (length s * 8 % 2 ^ 64)
    → (take len (put_mid (len - 8) k (set (x ++ drop (length p) (replicate 128 0)) (length p) 0x80) y) ≡ drop at (pad s))
    × (length (put_mid (len - 8) k (set (x ++ drop (length p) (replicate 128 0)) (length p) 0x80) y) ≡ 128)
unfolding pad
tail_filled s x p y at len k ha hl hm ek ep ex ey =
    let z : ℕ = zeros (length s) in
    let b : List ℕ = big_endian 8 (length s * 8) in
    let t : List ℕ = set (p ++ drop (length p) (replicate 128 0)) (length p) 0x80 in
    let r : length p ≡ length s - at = ap length ep ∙ length-drop at s in
    let eb : y ≡ b = ey ∙ length_bytes (length s * 8) in
    let ly : length y ≡ 8 = ap length eb ∙ length_digits 256 8 (length s * 8) in
    let lt : length t ≡ 128 = ap length (marked p (omega arith)) ∙ length-append p (0x80 ∷ replicate (127 - length p) 0) ∙ omega (arith, length-replicate {A = ℕ} (127 - length p) 0) in
    let front : take (len - 8) t ≡ p ++ 0x80 ∷ replicate z 0 = marked_front p z (len - 8) (omega arith) (omega arith) in
    rw ex (
      take-put_mid (len - 8) k t y len (omega arith) (omega arith)
          ∙ ap₂ ◌++◌ front eb
          ∙ append_assoc p (0x80 ∷ replicate z 0) b
          ∙ ap (λ (l : List ℕ). l ++ 0x80 ∷ rest s) ep
          ∙ sym (drop-append-le at s (0x80 ∷ rest s) ha),
      search (rules, overwrites),
    )

-- ---- a block reads only the bytes that it has
block_append : (n : ℕ) (b r : List ℕ) → suc n * 64 ≤ length b → block n (b ++ r) ≡ block n b
unfolding block
block_append n b r h =
    let l : 64 ≤ length (drop (n * 64) b) = simp length-drop (omega arith) in
    ap (take 64) (drop-append-le (n * 64) b r (omega arith)) ∙ take-append-le 64 (drop (n * 64) b) r l

-- one block more, of those that s is read as
pub blocks_more : (s : List ℕ) (bs : List (List ℕ)) (d : List ℕ) (k i : ℕ) (first x y : State) → bs ≡ first_chunks 64 k s → i < k
    → x ≡ blocks i s first → y ≡ compress x (get_or bs i d) → y ≡ blocks (i + 1) s first
unfolding blocks block
blocks_more s bs d k i first x y w h ex ey =
    let p : get_or bs i d ≡ take 64 (drop (i * 64) s) = ap (λ (r : List (List ℕ)). get_or r i d) w ∙ chunk 64 k i s d h in
    rw add-one (cc)

blocks_append : (n : ℕ) (b r : List ℕ) (s : State) → n * 64 ≤ length b → blocks n (b ++ r) s ≡ blocks n b s
unfolding blocks
blocks_append zero b r s h = refl
blocks_append (suc n) b r s h = cc (blocks_append n b r s (omega arith), block_append n b r h)

blocks_add : (n m : ℕ) (b : List ℕ) (s : State) → blocks (n + m) b s ≡ blocks m (drop (n * 64) b) (blocks n b s)
unfolding blocks block
blocks_add n zero b s = rw add-zero
blocks_add n (suc m) b s =
    let e : n * 64 + m * 64 ≡ (n + m) * 64 = omega arith in
    rw add-suc (cc (blocks_add n m b s, drop-drop (m * 64) (n * 64) b))

-- the whole blocks of the message itself, and then those of the rest t of the padded message
whole : (bs t : List ℕ) (s : State) → t ≡ drop (length bs / 64 * 64) (pad bs)
    → blocks (length (pad bs) / 64) (pad bs) s ≡ blocks (length t / 64) t (blocks (length bs / 64) bs s)
unfolding pad
whole bs t s et =
    let f : ℕ = length bs / 64 in
    let m : ℕ = length t / 64 in
    let x : State = blocks f bs s in
    let lt : length t ≡ length (pad bs) - f * 64 = ap length et ∙ length-drop (f * 64) (pad bs) in
    let e : length (pad bs) / 64 ≡ f + m = omega (arith, pad_length bs) in
    ap (λ (k : ℕ). blocks k (pad bs) s) e
    ∙ blocks_add f m (pad bs) s
    ∙ ap (blocks m (drop (f * 64) (pad bs))) (blocks_append f bs (0x80 ∷ rest bs) s (omega arith))
    ∙ ap (λ (b : List ℕ). blocks m b x) (sym et)

-- so the digest is that of the message's own blocks and then of the blocks of such a rest
pub in_two : (bs t d : List ℕ) (at : ℕ) (x y : State) → at ≡ length bs / 64 * 64 → t ≡ drop at (pad bs)
    → x ≡ blocks (length bs / 64) bs start → y ≡ blocks (length t / 64) t x → d ≡ joined (listed y) → d ≡ sha256 bs
unfolding sha256
in_two bs t d at x y ea et ex ey ed = cc (whole bs t start (et ∙ ap (λ (n : ℕ). drop n (pad bs)) ea))
