-- Words are read from the part of a message that they stand in, so the padded message's blocks are
-- the message's own but for the last. Assumes nothing.
use Rattle.std.proofs.Common.{◌≡◌, ℕ, zero, suc, ◌+◌, ◌-◌, ◌*◌, ◌/◌, ◌<◌, ◌≤◌, true, false, List, ◌++◌, reverse, length, get_or, take, drop, replicate, sym, refl, ap, ap₂, ◌∙◌, zero-add, add-one, arith, length-drop, take-append-drop, length-take, length-take-le, drop-drop}
use lib.Dec.{eqb-suc-zero}
use lib.Seq.{drop-append-le, take-append-le}
use Rattle.wire.specs.Number.{number, number_from}
use Rattle.blake2b.specs.Blake2b.{vector, word_at, words, F, blocks, dd, padded, start, final, digest, blake2b}
use Rattle.std.specs.Simd.{first_chunks}
use Rattle.std.specs.Int.{w64, from_le_bytes}
use Rattle.bits.proofs.Chunks.{chunk}
use Rattle.blake2b.proofs.Vector.{vector_same, as_vector}

-- ---- a word
word_front : (m : List ℕ) → length m ≡ 8 → from_le_bytes w64 m ≡ number 256 (reverse m)
unfolding vector number_from
word_front m l =
    sym
    (ap (λ (x : List ℕ). number 256 (reverse x)) (as_vector 8 m l)
    ∙ omega arith)

-- word i of those that b is read as
pub word_read : (b : List ℕ) (ws : List (List ℕ)) (d : List ℕ) (k i x : ℕ) → ws ≡ first_chunks 8 k b → i < k → i * 8 + 8 ≤ length b
    → x ≡ from_le_bytes w64 (get_or ws i d) → x ≡ word_at b (0 + i * 8)
unfolding word_at
word_read b ws d k i x w h f e =
    let g : 8 ≤ length (drop (i * 8) b) = simp length-drop (omega arith) in
    let p : get_or ws i d ≡ take 8 (drop (i * 8) b) = ap (λ (y : List (List ℕ)). get_or y i d) w ∙ chunk 8 k i b d h in
    e ∙ ap (from_le_bytes w64) p ∙ word_front (take 8 (drop (i * 8) b)) (length-take-le 8 (drop (i * 8) b) g) ∙ rw zero-add

word_at_append : (b r : List ℕ) (i : ℕ) → i + 8 ≤ length b → word_at (b ++ r) i ≡ word_at b i
unfolding word_at
word_at_append b r i h =
    let l : 8 ≤ length (drop i b) = simp length-drop (omega arith) in
    rw (drop-append-le i b r (omega arith), take-append-le 8 (drop i b) r l)

-- ---- a block's words
words_append : (b r : List ℕ) (at : ℕ) → at + 128 ≤ length b → words (b ++ r) at ≡ words b at
unfolding words
words_append b r at h =
    vector_same 16 (λ j. word_at (b ++ r) (at + j * 8)) (λ j. word_at b (at + j * 8)) (λ j l. word_at_append b r (at + j * 8) (omega arith))

words_drop : (b : List ℕ) (at : ℕ) → words (drop at b) 0 ≡ words b at
unfolding words word_at
words_drop b at =
    vector_same 16 (λ j. word_at (drop at b) (0 + j * 8)) (λ j. word_at b (at + j * 8)) (λ j l. rw (zero-add, drop-drop))

-- those of the block alone
pub words_front : (b : List ℕ) (at : ℕ) → at + 128 ≤ length b → words (take 128 (drop at b)) 0 ≡ words b at
words_front b at h =
    let l : 128 ≤ length (take 128 (drop at b)) = simp (length-take, length-drop) (omega arith) in
    sym (words_append (take 128 (drop at b)) (drop 128 (drop at b)) 0 l) ∙ rw (take-append-drop 128 (drop at b)) (words_drop b at)

blocks_append : (n : ℕ) (b r h : List ℕ) → n * 128 ≤ length b → blocks n (b ++ r) h ≡ blocks n b h
unfolding blocks
blocks_append zero b r h l = refl
blocks_append (suc n) b r h l = cc (blocks_append n b r h (omega arith), words_append b r (n * 128) (omega arith))

-- one block more, of those that s is read as
pub blocks_more : (s : List ℕ) (bs : List (List ℕ)) (d : List ℕ) (i : ℕ) (h x y : List ℕ) → bs ≡ first_chunks 128 (length s / 128) s → i < length s / 128
    → x ≡ blocks i s h → y ≡ F x (words (get_or bs i d) 0) ((i + 1) * 128) false → y ≡ blocks (i + 1) s h
unfolding blocks
blocks_more s bs d i h x y w l ex ey =
    let p : get_or bs i d ≡ take 128 (drop (i * 128) s) = ap (λ (r : List (List ℕ)). get_or r i d) w ∙ chunk 128 (length s / 128) i s d l in
    let q : words (get_or bs i d) 0 ≡ words s (i * 128) = ap (λ (b : List ℕ). words b 0) p ∙ words_front s (i * 128) (omega arith) in
    rw add-one (cc)

pub last_dd : (n : ℕ) → (n - 1) / 128 ≡ dd n - 1
unfolding dd
last_dd zero = refl
last_dd (suc n) = rw (eqb-suc-zero n) (omega arith)

-- ---- the last block
-- how many bytes the blocks before the last one have
pub dd_blocks : (n : ℕ) → (dd n ≡ dd n - 1 + 1) × ((dd n - 1) * 128 ≤ n) × (n ≤ (dd n - 1) * 128 + 128)
unfolding dd
dd_blocks zero = (refl, omega arith, omega arith)
dd_blocks (suc n) = rw (eqb-suc-zero n) (omega arith)

-- the message's own blocks, and then a buffer t with what is left of it and zeros
pub whole : (s t : List ℕ) (n : ℕ) → n ≡ dd (length s) - 1 → t ≡ drop (n * 128) s ++ replicate (n * 128 + 128 - length s) 0
    → F (blocks n s start) (words t 0) (length s) true ≡ final s
unfolding padded final
whole s t n e et =
    let b = dd_blocks (length s) in
    let z : List ℕ = replicate (dd (length s) * 128 - length s) 0 in
    let l : n * 128 ≤ length s = omega arith in
    let k : n * 128 + 128 - length s ≡ dd (length s) * 128 - length s = omega arith in
    let p : t ≡ drop (n * 128) (s ++ z) = et ∙ rw k (sym (drop-append-le (n * 128) s z l)) in
    cc (blocks_append n s z start l, words_drop (s ++ z) (n * 128))

-- so the digest after it is the message's
pub whole_digest : (s h x t d : List ℕ) (n : ℕ) → n ≡ dd (length s) - 1 → h ≡ start → x ≡ blocks n s h → t ≡ drop (n * 128) s ++ replicate (n * 128 + 128 - length s) 0
    → d ≡ digest (F x (words t 0) (length s) true) → d ≡ blake2b s
unfolding blake2b
whole_digest s h x t d n e eh ex et ed = cc (whole s t n e et)

-- and where the message is split before its last block
pub split_digest : (s h x t d full rest : List ℕ) (n : ℕ) → n ≡ dd (length s) - 1 → h ≡ start → full ≡ take (n * 128) s → rest ≡ drop (n * 128) s
    → x ≡ blocks (length full / 128) full h → t ≡ rest ++ replicate (128 - length rest) 0 → d ≡ digest (F x (words t 0) (length s) true) → d ≡ blake2b s
split_digest s h x t d full rest n e eh ef er ex et ed =
    let b = dd_blocks (length s) in
    let lf : length full ≡ n * 128 = ap length ef ∙ length-take-le (n * 128) s (omega arith) in
    let k : length full / 128 ≡ n = omega arith in
    let lr : length rest ≡ length s - n * 128 = ap length er ∙ length-drop (n * 128) s in
    let z : 128 - length rest ≡ n * 128 + 128 - length s = omega arith in
    let on : blocks n full h ≡ blocks n s h =
    sym (blocks_append n full rest h (omega arith)) ∙ ap (λ (l : List ℕ). blocks n l h) (ap₂ ◌++◌ ef er ∙ take-append-drop (n * 128) s) in
    whole_digest s h x t d n e eh (ex ∙ ap (λ (m : ℕ). blocks m full h) k ∙ on) (et ∙ ap₂ ◌++◌ er (ap (λ (m : ℕ). replicate m 0) z)) ed
