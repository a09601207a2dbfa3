-- The digest, byte by byte: what its loop computes, its length and its range. Assumes nothing.
use Rattle.std.proofs.Common.{◌≡◌, ℕ, suc, ◌+◌, ◌-◌, ◌*◌, ◌/◌, ◌%◌, ◌^◌, ◌<◌, ◌≤◌, List, [], ◌∷◌, ◌++◌, length, get_or, take, drop, sym, refl, ap, ap₂, add-one, take-suc, take_all, take-append-drop, ◌∙◌, ⊎_elim, mod-lt, arith, lit<, length-append, length-take-le, get_or-take, get_or-append-add}
use native.Mathlib.Nat.{zero-div}
use Rattle.std.proofs.lemmas.List.{append_assoc, append-nil}
use Rattle.std.proofs.lemmas.Slice.{take-put_mid}
use Rattle.std.specs.Int.{w64, to_le_bytes}
use borrow.Rule.Slice.PartMut.{put_mid}
use lib.Seq.{take-append_seam}
use lib.ListN.{get_or-append, get_or-eq_default}
use Rattle.wire.specs.Number.{little_endian, Bytes}
use Rattle.wire.proofs.Cases.{lt_or_le}
use Rattle.wire.proofs.Digits.{length_little, little_at}
use Rattle.blake2b.specs.Blake2b.{vector, bytes, fold, F, final, digest, blake2b}
use Rattle.blake2b.proofs.Vector.{length_vector, vector_same, as_vector}

-- byte i of a vector of words
unfoldable pub byte_of : List ℕ → ℕ → ℕ
byte_of h i = get_or h (i / 8) 0 / 2 ^ (i % 8 * 8) % 256

bytes_at : (h : List ℕ) (i : ℕ) → get_or (bytes h) i 0 ≡ byte_of h i
unfolding bytes byte_of
bytes_at [] i = ap (λ (x : ℕ). x % 256) (sym (zero-div (2 ^ (i % 8 * 8))))
bytes_at (x ∷ xs) i =
    ⊎_elim
    (λ (h : i < 8).
    let q : i / 8 ≡ 0 = omega arith in
    let r : i % 8 ≡ i = omega arith in
    rw (q, r) (get_or-append (little_endian 8 x) (bytes xs) 0 i (rw length_little h) ∙ little_at 8 x i h))
    (λ (h : 8 ≤ i).
    let k : ℕ = i - 8 in
    let e : i ≡ length (little_endian 8 x) + k = rw length_little (omega arith) in
    let q : i / 8 ≡ suc (k / 8) = omega arith in
    let r : i % 8 ≡ k % 8 = omega arith in
    ap (λ (m : ℕ). get_or (little_endian 8 x ++ bytes xs) m 0) e
    ∙ get_or-append-add (little_endian 8 x) (bytes xs) k 0
    ∙ bytes_at xs k
    ∙ rw (q, r))
    (lt_or_le i 8)

length_bytes : (h : List ℕ) → length (bytes h) ≡ length h * 8
unfolding bytes
length_bytes [] = refl
length_bytes (x ∷ xs) =
    length-append (little_endian 8 x) (bytes xs) ∙ rw (length_little 8 x, length_bytes xs) (omega arith)

-- ---- what the loop of `digest` writes
eight_low : (n : ℕ) → to_le_bytes w64 n ≡ little_endian 8 n
unfolding little_endian
eight_low n =
    let b : n / 256 ^ 2 % 256 ≡ n / 256 / 256 % 256 = omega arith in
    let c : n / 256 ^ 3 % 256 ≡ n / 256 / 256 / 256 % 256 = omega arith in
    let d : n / 256 ^ 4 % 256 ≡ n / 256 / 256 / 256 / 256 % 256 = omega arith in
    let e : n / 256 ^ 5 % 256 ≡ n / 256 / 256 / 256 / 256 / 256 % 256 = omega arith in
    let f : n / 256 ^ 6 % 256 ≡ n / 256 / 256 / 256 / 256 / 256 / 256 % 256 = omega arith in
    let g : n / 256 ^ 7 % 256 ≡ n / 256 / 256 / 256 / 256 / 256 / 256 / 256 % 256 = omega arith in
    cc

bytes_append : (xs ys : List ℕ) → bytes (xs ++ ys) ≡ bytes xs ++ bytes ys
unfolding bytes
bytes_append [] ys = refl
bytes_append (x ∷ xs) ys = ap (λ (l : List ℕ). little_endian 8 x ++ l) (bytes_append xs ys) ∙ sym (append_assoc (little_endian 8 x) (bytes xs) (bytes ys))

-- a turn: the eight bytes of word i
pub bytes_more : (d ws y : List ℕ) (i k : ℕ) → i < length ws → 8 * i ≤ length d → take (8 * i) d ≡ bytes (take i ws)
    → y ≡ to_le_bytes w64 (get_or ws i 0) → take (8 * (i + 1)) (put_mid (8 * i) k d y) ≡ bytes (take (i + 1) ws)
unfolding bytes
bytes_more d ws y i k h f e ey =
    let x : ℕ = get_or ws i 0 in
    let eb : y ≡ little_endian 8 x = ey ∙ eight_low x in
    let ly : length y ≡ 8 = ap length eb ∙ length_little 8 x in
    take-put_mid (8 * i) k d y (8 * (i + 1)) (omega arith) f
    ∙ ap₂ ◌++◌ e (eb ∙ sym (append-nil (little_endian 8 x)))
    ∙ sym (bytes_append (take i ws) (x ∷ []))
    ∙ ap bytes (sym (take-suc ws i 0 h) ∙ ap (λ (n : ℕ). take n ws) (sym (add-one i)))

-- the end: those of the first four
pub bytes_front : (h d : List ℕ) (i : ℕ) → length h ≡ 8 → length d ≡ 32 → i ≡ 4 → take (8 * i) d ≡ bytes (take i (take 4 h)) → d ≡ digest h
unfolding digest
bytes_front h d i lh ld e p =
    let f : List ℕ = take 4 h in
    let l4 : length f ≡ 4 = length-take-le 4 h (omega arith) in
    let lf : length (bytes f) ≡ 32 = length_bytes f ∙ ap (λ (n : ℕ). n * 8) l4 in
    sym (take_all 32 d (omega arith))
    ∙ rw e at p
    ∙ ap bytes (take_all 4 f (omega arith))
    ∙ sym (ap (take 32) (ap bytes (sym (take-append-drop 4 h)) ∙ bytes_append f (drop 4 h)) ∙ ap (λ (n : ℕ). take n (bytes f ++ bytes (drop 4 h))) (sym lf) ∙ take-append_seam (bytes f) (bytes (drop 4 h)))

pub digest_vector : (h : List ℕ) → length h ≡ 8 → digest h ≡ vector 32 (byte_of h)
unfolding digest
digest_vector h e =
    as_vector 32 (digest h) (length-take-le 32 (bytes h) (omega (arith, length_bytes h)))
    ∙ vector_same 32 (λ i. get_or (digest h) i 0) (byte_of h) (λ i l. get_or-take 32 (bytes h) i 0 l ∙ bytes_at h i)

-- ---- for callers: the digest is 32 bytes
pub length_blake2b : (s : List ℕ) → length (blake2b s) ≡ 32
unfolding blake2b final F fold
length_blake2b s = ap length (digest_vector (final s) (length_vector 8 _)) ∙ length_vector 32 (byte_of (final s))

pub blake2b_bytes : (s : List ℕ) → Bytes (blake2b s)
unfolding blake2b digest byte_of
blake2b_bytes s i =
    let h : List ℕ = final s in
    ⊎_elim
    (λ (l : i < 32). rw (get_or-take 32 (bytes h) i 0 l, bytes_at h i) (mod-lt (get_or h (i / 8) 0 / 2 ^ (i % 8 * 8)) (lit< tt)))
    (λ (l : 32 ≤ i). rw (get_or-eq_default (blake2b s) 0 {n = i} (rw (length_blake2b s) l)) (lit< tt))
    (lt_or_le i 32)
