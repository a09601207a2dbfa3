-- One more step on the work vector, where the vector before it is known; and the vector that F
-- begins with. Assumes nothing.
use Rattle.std.proofs.Common.{◌≡◌, ℕ, ◌+◌, ◌-◌, ◌/◌, ◌%◌, ◌^◌, ◌<◌, true, false, List, ◌++◌, length, get_or, take, set, replicate, sym, ap, ap₂, ◌∙◌, arith, rules, length-append, take_all}
use Rattle.std.proofs.lemmas.Slice.{take-put_mid, overwrites}
use borrow.Rule.Slice.PartMut.{put_mid}
use lib.Bits.{bit_xor, xor_zero_r}
use Rattle.std.specs.Int.{w64, rotate_right}
use Rattle.bits.specs.Word.{rotr}
use lib.Seq.{set-get_or, take-append_seam}
use Rattle.blake2b.specs.Blake2b.{iv, add, turn, G, word, begin}

-- the standard library's rotation, by less than a word
pub rotated : (n r x : ℕ) → 0 < n → n < 64 → r ≡ rotate_right w64 x n → r ≡ rotr 64 n x
unfolding rotr
rotated n r x l h e =
    let a : n % 64 ≡ n = omega arith in
    let b : (64 - n) % 64 ≡ 64 - n = omega arith in
    e ∙ rw (a, b)

pub added : (i j x : ℕ) {u v w : List ℕ} → w ≡ add u i j x → u ≡ v → w ≡ add v i j x
added i j x e p = cc

pub turned : (i j n : ℕ) {u v w : List ℕ} → w ≡ turn u i j n → u ≡ v → w ≡ turn v i j n
turned i j n e p = cc

pub mixed : (m : List ℕ) (r i a b c d : ℕ) {u v w : List ℕ} → w ≡ G u a b c d (word m r i) (word m r (i + 1)) → u ≡ v → w ≡ G v a b c d (word m r i) (word m r (i + 1))
mixed m r i a b c d e p = cc

-- an offset below 2^64 has no high word
offset : (v : List ℕ) (t : ℕ) → t < 2 ^ 64 → set v 13 (bit_xor (get_or v 13 0) (t / 2 ^ 64 % 2 ^ 64)) ≡ v
offset v t h =
    let e : t / 2 ^ 64 % 2 ^ 64 ≡ 0 = omega arith in
    ap (λ (x : ℕ). set v 13 (bit_xor (get_or v 13 0) x)) e
    ∙ ap (set v 13) (xor_zero_r (get_or v 13 0))
    ∙ set-get_or v 13 0

-- the work vector, written in two halves
pub halves : (h k x y : List ℕ) → length h ≡ 8 → length k ≡ 8 → x ≡ h → y ≡ k → put_mid 8 8 (x ++ replicate 8 0) y ≡ h ++ k
halves h k x y lh lk ex ey =
    let z : List ℕ = x ++ replicate 8 0 in
    let lx : length x ≡ 8 = ap length ex ∙ lh in
    let ly : length y ≡ 8 = ap length ey ∙ lk in
    let lz : length z ≡ 16 = length-append x (replicate 8 0) ∙ omega arith in
    let l : length (put_mid 8 8 z y) ≡ 16 = search (rules, overwrites) in
    sym (take_all 16 (put_mid 8 8 z y) (omega arith))
    ∙ take-put_mid 8 8 z y 16 (omega arith) (omega arith)
    ∙ ap₂ ◌++◌ (ap (λ (n : ℕ). take n z) (sym lx) ∙ take-append_seam x (replicate 8 0) ∙ ex) ey

-- the work vector v of h, with such an offset, for each of the two kinds of block
pub begun : (h v : List ℕ) (t : ℕ) → t < 2 ^ 64 → v ≡ h ++ iv
    → (set v 12 (bit_xor (get_or v 12 0) t) ≡ begin h t false)
    × (set (set v 12 (bit_xor (get_or v 12 0) t)) 14 (bit_xor (get_or (set v 12 (bit_xor (get_or v 12 0) t)) 14 0) 0xffffffffffffffff) ≡ begin h t true)
unfolding begin
begun h v t l e =
    let low : t % 2 ^ 64 ≡ t = omega arith in
    let w : List ℕ = set v 12 (bit_xor (get_or v 12 0) t) in
    let p : w ≡ begin h t false = ap (λ (v : List ℕ). set v 12 (bit_xor (get_or v 12 0) t)) e ∙ rw low (sym (offset (set (h ++ iv) 12 (bit_xor (get_or (h ++ iv) 12 0) t)) t l)) in
    (p, ap (λ (v : List ℕ). set v 14 (bit_xor (get_or v 14 0) 0xffffffffffffffff)) p)
