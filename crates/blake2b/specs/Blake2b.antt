-- RFC 7693: BLAKE2b with no key (kk = 0) and a digest of 32 bytes (nn = 32), as R7.1 asks. The
-- definitions go by the RFC's sections and use its names. A word has 64 bits.
use Rattle.std.specs.Prelude.{ℕ, zero, suc, ◌+◌, ◌-◌, ◌*◌, ◌/◌, ◌%◌, ◌^◌, Bool, true, false, List, [], ◌∷◌, ◌++◌, reverse, length, take, drop, set, replicate, ◌==◌, bit_xor, slice_index, slice_index_or, slice_set}
use Rattle.wire.specs.Answer.{choose}
use Rattle.wire.specs.Number.{number, little_endian}
use Rattle.bits.specs.Word.{plus, rotr}

-- 2.4: the vector x[0..n-1] whose element i is f i
unfoldable pub vector : ℕ → (ℕ → ℕ) → List ℕ
vector zero f = []
vector (suc n) f = vector n f ++ (f n ∷ [])

-- 2.4: the word that stands at byte i of a byte stream, its least significant byte first
unfoldable pub word_at : List ℕ → ℕ → ℕ
word_at b i = number 256 (reverse (take 8 (drop i b)))

-- 2.4: and the bytes of a vector of words
unfoldable pub bytes : List ℕ → List ℕ
bytes [] = []
bytes (x ∷ xs) = little_endian 8 x ++ bytes xs

-- 2.6: the initialization vector. Its rule is `iv_root` of proofs/Tables.antt (R18.3)
unfoldable pub iv : List ℕ
iv =
    0x6a09e667f3bcc908 ∷ 0xbb67ae8584caa73b ∷ 0x3c6ef372fe94f82b ∷ 0xa54ff53a5f1d36f1 ∷
    0x510e527fade682d1 ∷ 0x9b05688c2b3e6c1f ∷ 0x1f83d9abfb41bd6b ∷ 0x5be0cd19137e2179 ∷ []

-- 2.7: the message schedule, SIGMA[r][i], a row for each of the twelve rounds. Its rule is
-- `sigma_small`, `sigma_has` and `sigma_again` of proofs/Tables.antt (R18.3)
unfoldable pub sigma : List (List ℕ)
sigma =
    (0 ∷ 1 ∷ 2 ∷ 3 ∷ 4 ∷ 5 ∷ 6 ∷ 7 ∷ 8 ∷ 9 ∷ 10 ∷ 11 ∷ 12 ∷ 13 ∷ 14 ∷ 15 ∷ []) ∷
    (14 ∷ 10 ∷ 4 ∷ 8 ∷ 9 ∷ 15 ∷ 13 ∷ 6 ∷ 1 ∷ 12 ∷ 0 ∷ 2 ∷ 11 ∷ 7 ∷ 5 ∷ 3 ∷ []) ∷
    (11 ∷ 8 ∷ 12 ∷ 0 ∷ 5 ∷ 2 ∷ 15 ∷ 13 ∷ 10 ∷ 14 ∷ 3 ∷ 6 ∷ 7 ∷ 1 ∷ 9 ∷ 4 ∷ []) ∷
    (7 ∷ 9 ∷ 3 ∷ 1 ∷ 13 ∷ 12 ∷ 11 ∷ 14 ∷ 2 ∷ 6 ∷ 5 ∷ 10 ∷ 4 ∷ 0 ∷ 15 ∷ 8 ∷ []) ∷
    (9 ∷ 0 ∷ 5 ∷ 7 ∷ 2 ∷ 4 ∷ 10 ∷ 15 ∷ 14 ∷ 1 ∷ 11 ∷ 12 ∷ 6 ∷ 8 ∷ 3 ∷ 13 ∷ []) ∷
    (2 ∷ 12 ∷ 6 ∷ 10 ∷ 0 ∷ 11 ∷ 8 ∷ 3 ∷ 4 ∷ 13 ∷ 7 ∷ 5 ∷ 15 ∷ 14 ∷ 1 ∷ 9 ∷ []) ∷
    (12 ∷ 5 ∷ 1 ∷ 15 ∷ 14 ∷ 13 ∷ 4 ∷ 10 ∷ 0 ∷ 7 ∷ 6 ∷ 3 ∷ 9 ∷ 2 ∷ 8 ∷ 11 ∷ []) ∷
    (13 ∷ 11 ∷ 7 ∷ 14 ∷ 12 ∷ 1 ∷ 3 ∷ 9 ∷ 5 ∷ 0 ∷ 15 ∷ 4 ∷ 8 ∷ 6 ∷ 2 ∷ 10 ∷ []) ∷
    (6 ∷ 15 ∷ 14 ∷ 9 ∷ 11 ∷ 3 ∷ 0 ∷ 8 ∷ 12 ∷ 2 ∷ 13 ∷ 7 ∷ 1 ∷ 4 ∷ 10 ∷ 5 ∷ []) ∷
    (10 ∷ 2 ∷ 8 ∷ 4 ∷ 7 ∷ 6 ∷ 1 ∷ 5 ∷ 15 ∷ 11 ∷ 9 ∷ 14 ∷ 3 ∷ 12 ∷ 13 ∷ 0 ∷ []) ∷
    (0 ∷ 1 ∷ 2 ∷ 3 ∷ 4 ∷ 5 ∷ 6 ∷ 7 ∷ 8 ∷ 9 ∷ 10 ∷ 11 ∷ 12 ∷ 13 ∷ 14 ∷ 15 ∷ []) ∷
    (14 ∷ 10 ∷ 4 ∷ 8 ∷ 9 ∷ 15 ∷ 13 ∷ 6 ∷ 1 ∷ 12 ∷ 0 ∷ 2 ∷ 11 ∷ 7 ∷ 5 ∷ 3 ∷ []) ∷ []

-- 3.1: v[i] := (v[i] + v[j] + x) mod 2**64, where x is 0 in the lines that add two words
unfoldable pub add : (v : List ℕ) (i j x : ℕ) → List ℕ
add v i j x = slice_set v i (plus 64 (plus 64 (slice_index v i) (slice_index v j)) x)

-- 3.1: v[i] := (v[i] ^ v[j]) >>> n
unfoldable pub turn : (v : List ℕ) (i j n : ℕ) → List ℕ
turn v i j n = slice_set v i (rotr 64 n (bit_xor (slice_index v i) (slice_index v j)))

-- 3.1: the mixing function G, with the rotations of 2.1
unfoldable pub G : (v : List ℕ) (a b c d x y : ℕ) → List ℕ
G v a b c d x y =
    let v : List ℕ = add v a b x in
    let v : List ℕ = turn v d a 32 in
    let v : List ℕ = add v c d 0 in
    let v : List ℕ = turn v b c 24 in
    let v : List ℕ = add v a b y in
    let v : List ℕ = turn v d a 16 in
    let v : List ℕ = add v c d 0 in
    turn v b c 63

-- 3.2: m[s[i]], where s is SIGMA's row for round r
unfoldable pub word : List ℕ → ℕ → ℕ → ℕ
word m r i = slice_index m (slice_index (slice_index_or sigma r []) i)

-- 3.2: cryptographic mixing, round r
unfoldable pub round : List ℕ → ℕ → List ℕ → List ℕ
round m r v =
    let v : List ℕ = G v 0 4 8 12 (word m r 0) (word m r 1) in
    let v : List ℕ = G v 1 5 9 13 (word m r 2) (word m r 3) in
    let v : List ℕ = G v 2 6 10 14 (word m r 4) (word m r 5) in
    let v : List ℕ = G v 3 7 11 15 (word m r 6) (word m r 7) in
    let v : List ℕ = G v 0 5 10 15 (word m r 8) (word m r 9) in
    let v : List ℕ = G v 1 6 11 12 (word m r 10) (word m r 11) in
    let v : List ℕ = G v 2 7 8 13 (word m r 12) (word m r 13) in
    G v 3 4 9 14 (word m r 14) (word m r 15)

-- 3.2: the first n rounds
unfoldable pub rounds : ℕ → List ℕ → List ℕ → List ℕ
rounds zero m v = v
rounds (suc r) m v = round m r (rounds r m v)

-- 3.2: the local work vector, from the state h, the offset counter t (low word, high word) and the
-- final block indicator f
unfoldable pub begin : List ℕ → ℕ → Bool → List ℕ
begin h t f =
    let v : List ℕ = h ++ iv in
    let v : List ℕ = set v 12 (bit_xor (slice_index v 12) (t % 2 ^ 64)) in
    let v : List ℕ = set v 13 (bit_xor (slice_index v 13) (t / 2 ^ 64 % 2 ^ 64)) in
    choose f (slice_set v 14 (bit_xor (slice_index v 14) 0xffffffffffffffff)) v

-- 3.2: h[i] := h[i] ^ v[i] ^ v[i + 8]
unfoldable pub fold : List ℕ → List ℕ → List ℕ
fold h v = vector 8 (λ i. bit_xor (bit_xor (slice_index h i) (slice_index v i)) (slice_index v (i + 8)))

-- 3.2: the compression function F
unfoldable pub F : (h m : List ℕ) (t : ℕ) (f : Bool) → List ℕ
F h m t f = fold h (rounds 12 m (begin h t f))

-- 3.3: the number of blocks of ll bytes; an empty message still has one
unfoldable pub dd : ℕ → ℕ
dd ll = choose (ll == 0) 1 ((ll + 127) / 128)

-- 3.3: the data, padded with zeros to whole blocks of 128 bytes
unfoldable pub padded : List ℕ → List ℕ
padded s = s ++ replicate (dd (length s) * 128 - length s) 0

-- 3.3: the sixteen words of the block that starts at byte i
unfoldable pub words : List ℕ → ℕ → List ℕ
words d i = vector 16 (λ j. word_at d (i + j * 8))

-- 3.3: h[0..7] := IV[0..7], h[0] := h[0] ^ 0x01010000 ^ (kk << 8) ^ nn
unfoldable pub start : List ℕ
start = slice_set iv 0 (bit_xor (bit_xor (bit_xor (slice_index iv 0) 0x01010000) (0 * 2 ^ 8)) 32)

-- 3.3: the state after the first n blocks of d, none of which is the final block
unfoldable pub blocks : ℕ → List ℕ → List ℕ → List ℕ
blocks zero d h = h
blocks (suc i) d h = F (blocks i d h) (words d (i * 128)) ((i + 1) * 128) false

-- 3.3: the state after the final block, which has the length of the data for its offset, and the
-- flag
unfoldable pub final : List ℕ → List ℕ
final s =
    let d : List ℕ = padded s in
    let n : ℕ = dd (length s) - 1 in
    F (blocks n d start) (words d (n * 128)) (length s) true

-- 3.3: the first nn bytes of the little-endian word array h
unfoldable pub digest : List ℕ → List ℕ
digest h = take 32 (bytes h)

-- 3.3: the hash of a message, of which an id is the front (R7.1)
unfoldable pub blake2b : List ℕ → List ℕ
blake2b s = digest (final s)
