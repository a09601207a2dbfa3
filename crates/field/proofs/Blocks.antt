-- Elements as 16 bytes, the highest first. Assumes nothing.
use mathlib.Core.Path.{◌≡◌, refl, sym, ap, ap₂, ◌∙◌}
use mathlib.Core.List.{List, [], ◌∷◌, ◌++◌}
use Prim.Native.Nat.{ℕ, zero, suc, ◌+◌, ◌*◌, ◌/◌, ◌%◌, ◌^◌, ◌≤◌, ◌<◌}
use native.Mathlib.Nat.{zero-add, suc-add, add-zero, mul-one, add_assoc, add-mul, mul_assoc, mul_comm, pow-zero, pow-suc, pow-le-pow_right, lt_of_lt_of_le, zero-lt-suc, le_of_suc-le-suc}
use native.Mathlib.Numerals.{add-one}
use native.Mathlib.Omega.{arith}
use lib.Arith.{digits_lt}
use lib.Dec.{lit<}
use lib.ListN.{length, take, drop, get_or, length-append, drop_of_length-le}
use lib.Pow.{shr-shr}
use lib.Seq.{get_or-drop}
use Rattle.wire.specs.Number.{digits, number_from, number, big_endian, Bytes}
use Rattle.wire.proofs.Digits.{length_digits, number_snoc, number_digits, digits_number, number_lt, digits_small, bytes_append}
use Rattle.field.specs.Element.{halves, filled, block}
use Rattle.field.proofs.Elements.{two_halves}

pub length_filled : (n : ℕ) (bs : List ℕ) → length (filled n bs) ≡ n
unfolding filled
length_filled zero bs = refl
length_filled (suc n) [] = ap suc (length_filled n [])
length_filled (suc n) (b ∷ bs) = ap suc (length_filled n bs)

pub bytes_filled : (n : ℕ) (bs : List ℕ) → Bytes bs → Bytes (filled n bs)
unfolding filled
bytes_filled zero bs all i = lit< tt
bytes_filled (suc n) [] all zero = lit< tt
bytes_filled (suc n) [] all (suc i) = bytes_filled n [] all i
bytes_filled (suc n) (b ∷ bs) all zero = all 0
bytes_filled (suc n) (b ∷ bs) all (suc i) = bytes_filled n bs (λ j. all (suc j)) i

pub filled_whole : (n : ℕ) (bs : List ℕ) → n ≤ length bs → filled n bs ≡ take n bs
unfolding filled
filled_whole zero bs h = refl
filled_whole (suc n) [] h = absurd (omega arith)
filled_whole (suc n) (b ∷ bs) h = ap {B = List ℕ} (λ (l : List ℕ). b ∷ l) (filled_whole n bs (le_of_suc-le-suc h))

-- what stands after the bytes that are taken does not count
pub filled_front : (xs ys : List ℕ) → filled (length xs) (xs ++ ys) ≡ xs
unfolding filled
filled_front [] ys = refl
filled_front (x ∷ xs) ys = ap {B = List ℕ} (λ (l : List ℕ). x ∷ l) (filled_front xs ys)

-- ---- an element and its bytes

pub block_good : (bs : List ℕ) → Bytes bs → block bs < 2 ^ 128
unfolding block
block_good bs all = number_lt 256 (filled 16 bs) 16 (length_filled 16 bs) (bytes_filled 16 bs all)

pub bytes_of_block : (bs : List ℕ) → Bytes bs → big_endian 16 (block bs) ≡ filled 16 bs
unfolding block
bytes_of_block bs all = digits_number 256 (filled 16 bs) 16 (length_filled 16 bs) (bytes_filled 16 bs all)

pub block_of_bytes : (a : ℕ) (rest : List ℕ) → a < 2 ^ 128 → block (big_endian 16 a ++ rest) ≡ a
unfolding block
block_of_bytes a rest h =
    ap (λ (n : ℕ). number 256 (filled n (big_endian 16 a ++ rest))) (sym (length_digits 256 16 a))
    ∙ ap (number 256) (filled_front (big_endian 16 a) rest)
    ∙ number_digits 256 16 a (lit< tt) h

-- ---- read by the code

-- one byte more
filled_more : (n : ℕ) (bs : List ℕ) → filled (suc n) bs ≡ filled n bs ++ (get_or bs n 0 ∷ [])
unfolding filled
filled_more zero [] = refl
filled_more zero (b ∷ bs) = refl
filled_more (suc n) [] = ap {B = List ℕ} (λ (l : List ℕ). 0 ∷ l) (filled_more n [])
filled_more (suc n) (b ∷ bs) = ap {B = List ℕ} (λ (l : List ℕ). b ∷ l) (filled_more n bs)

pub word_more : (s : List ℕ) (k i w b : ℕ) → w ≡ number 256 (filled i (drop k s)) → b ≡ get_or s (k + i) 0
    → w * 256 + b ≡ number 256 (filled (i + 1) (drop k s))
word_more s k i w b ew eb =
    ap₂ (λ (x y : ℕ). x * 256 + y) ew (eb ∙ sym (get_or-drop k s i 0))
    ∙ sym (ap (λ (n : ℕ). number 256 (filled n (drop k s))) (add-one i) ∙ ap (number 256) (filled_more i (drop k s))
    ∙ number_snoc 256 0 (filled i (drop k s)) (get_or (drop k s) i 0))

pub word_lt : (i w b : ℕ) → w < 256 ^ i → b < 256 → w * 256 + b < 256 ^ (i + 1)
word_lt i w b h l = rw (add-one i, pow-suc 256 i) (digits_lt h l)

pub word_room : (i w : ℕ) → i < 8 → w < 256 ^ i → w < 2 ^ 56
word_room i w h l = lt_of_lt_of_le l (pow-le-pow_right {n = 256} (zero-lt-suc 255) {i = i} {j = 7} (le_of_suc-le-suc h))

-- the first m bytes and the n after them
filled_split : (m n : ℕ) (bs : List ℕ) → filled (m + n) bs ≡ filled m bs ++ filled n (drop m bs)
unfolding filled
filled_split zero n bs = ap (λ (k : ℕ). filled k bs) (zero-add n)
filled_split (suc m) n [] = ap (λ (k : ℕ). filled k []) (suc-add m n) ∙ ap {B = List ℕ} (λ (l : List ℕ). 0 ∷ l) (filled_split m n [] ∙ rw (drop_of_length-le {A = ℕ} [] {i = m} (omega arith)))
filled_split (suc m) n (b ∷ bs) =
    ap (λ (k : ℕ). filled k (b ∷ bs)) (suc-add m n) ∙ ap {B = List ℕ} (λ (l : List ℕ). b ∷ l) (filled_split m n bs)

number_after : (base n : ℕ) (xs ys : List ℕ) → number_from base n (xs ++ ys) ≡ number_from base (number_from base n xs) ys
unfolding number_from
number_after base n [] ys = refl
number_after base n (x ∷ xs) ys = number_after base (n * base + x) xs ys

-- the digits before count for a power of the base each
number_add : (base n : ℕ) (ds : List ℕ) → number_from base n ds ≡ n * base ^ length ds + number base ds
unfolding number_from
number_add base n [] = sym (add-zero (n * base ^ 0) ∙ ap (λ (x : ℕ). n * x) (pow-zero base) ∙ mul-one n)
number_add base n (d ∷ ds) =
    let p = base ^ length ds in
    let up : n * base * p ≡ n * base ^ suc (length ds) =
    mul_assoc n base p ∙ ap (λ (x : ℕ). n * x) (mul_comm base p ∙ sym (pow-suc base (length ds))) in
    let z : 0 * base + d ≡ d = omega arith in
    number_add base (n * base + d) ds
    ∙ ap (λ (x : ℕ). x + number base ds) (add-mul (n * base) d p)
    ∙ add_assoc (n * base * p) (d * p) (number base ds)
    ∙ ap₂ ◌+◌ up (sym (ap (λ (x : ℕ). number_from base x ds) z ∙ number_add base d ds))

-- two words of 8 bytes
pub words_number : (xs ys : List ℕ) → length ys ≡ 8 → number 256 (xs ++ ys) ≡ number 256 xs * 2 ^ 64 + number 256 ys
words_number xs ys n =
    number_after 256 0 xs ys ∙ number_add 256 (number 256 xs) ys
    ∙ ap (λ (k : ℕ). number 256 xs * 256 ^ k + number 256 ys) n

pub block_halves : (bs : List ℕ) (h l : ℕ) → l < 2 ^ 64 → h ≡ number 256 (filled 8 (drop 0 bs)) → l ≡ number 256 (filled 8 (drop 8 bs))
    → h ∷ l ∷ [] ≡ halves (block bs)
unfolding block
block_halves bs h l g eh el =
    let whole : h * 2 ^ 64 + l ≡ number 256 (filled 16 bs) =
    ap₂ (λ (x y : ℕ). x * 2 ^ 64 + y) eh el
    ∙ sym (ap (number 256) (filled_split 8 8 bs) ∙ words_number (filled 8 bs) (filled 8 (drop 8 bs)) (length_filled 8 (drop 8 bs))) in
    sym (two_halves h l g) ∙ ap halves whole

-- ---- written by the code

-- the bytes of a half, as the code makes them
abbrev pub eight : ℕ → List ℕ
eight n =
    n / 2 ^ 56 % 256 ∷ n / 2 ^ 48 % 256 ∷ n / 2 ^ 40 % 256 ∷ n / 2 ^ 32 % 256 ∷ n / 2 ^ 24 % 256 ∷ n / 2 ^ 16 % 256 ∷ n / 2 ^ 8 % 256 ∷ n % 256 ∷ []

eight_bytes : (n : ℕ) → eight n ≡ big_endian 8 n
unfolding digits
eight_bytes n =
    let e2 : n / 256 / 256 ≡ n / 2 ^ 16 = shr-shr n 8 8 in
    let e3 : n / 256 / 256 / 256 ≡ n / 2 ^ 24 = ap (λ (x : ℕ). x / 256) e2 ∙ shr-shr n 16 8 in
    let e4 : n / 256 / 256 / 256 / 256 ≡ n / 2 ^ 32 = ap (λ (x : ℕ). x / 256) e3 ∙ shr-shr n 24 8 in
    let e5 : n / 256 / 256 / 256 / 256 / 256 ≡ n / 2 ^ 40 = ap (λ (x : ℕ). x / 256) e4 ∙ shr-shr n 32 8 in
    let e6 : n / 256 / 256 / 256 / 256 / 256 / 256 ≡ n / 2 ^ 48 = ap (λ (x : ℕ). x / 256) e5 ∙ shr-shr n 40 8 in
    let e7 : n / 256 / 256 / 256 / 256 / 256 / 256 / 256 ≡ n / 2 ^ 56 = ap (λ (x : ℕ). x / 256) e6 ∙ shr-shr n 48 8 in
    cc

pub sixteen_bytes : (h l : ℕ) → h < 2 ^ 64 → l < 2 ^ 64 → eight h ++ eight l ≡ big_endian 16 (h * 2 ^ 64 + l)
sixteen_bytes h l a b =
    let xs = big_endian 8 h in
    let ys = big_endian 8 l in
    let whole : number 256 (xs ++ ys) ≡ h * 2 ^ 64 + l =
    words_number xs ys (length_digits 256 8 l) ∙ ap₂ (λ (x y : ℕ). x * 2 ^ 64 + y) (number_digits 256 8 h (lit< tt) a) (number_digits 256 8 l (lit< tt) b) in
    let count : length (xs ++ ys) ≡ 16 = length-append xs ys ∙ ap₂ ◌+◌ (length_digits 256 8 h) (length_digits 256 8 l) in
    ap₂ {C = List ℕ} ◌++◌ (eight_bytes h) (eight_bytes l)
    ∙ sym (digits_number 256 (xs ++ ys) 16 count (bytes_append xs ys (digits_small 256 8 h (lit< tt)) (digits_small 256 8 l (lit< tt))))
    ∙ ap (big_endian 16) whole
