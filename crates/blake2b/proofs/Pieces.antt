-- The hash of a message that is read block by block: what each block comes to know.
-- Assumes nothing.
use Rattle.std.proofs.Common.{◌≡◌, ℕ, zero, suc, ◌+◌, ◌-◌, ◌*◌, ◌<◌, ◌≤◌, true, false, List, ◌++◌, length, take, drop, replicate, refl, ap, ◌∙◌, add-one, arith, length-drop, drop-drop}
use lib.Dec.{eqb-suc-zero}
use Rattle.blake2b.specs.Blake2b.{words, F, blocks, dd, start, digest, blake2b}
use Rattle.blake2b.proofs.Reading.{words_front, whole_digest}

-- k blocks of s are done: h is the state, r what is left of s, and the next block ends at byte e
-- where it is not the last
pub record Hashing (s : List ℕ) (e : ℕ) (h r : List ℕ) : Type 0 where
  pub k : ℕ
  pub ends : e ≡ k * 128 + 128
  pub more : k * 128 ≤ length s - 1
  pub state : h ≡ blocks k s start
  pub left : r ≡ drop (k * 128) s

-- so long a message has its last block there
last_block : (n k : ℕ) → k * 128 ≤ n - 1 → n ≤ k * 128 + 128 → k ≡ dd n - 1
unfolding dd
last_block zero k h l = omega arith
last_block (suc n) k h l = rw (eqb-suc-zero n) (omega arith)

module _ (s : List ℕ) where
  pub hashing_start : Hashing s 128 start s
  unfolding blocks
  hashing_start = record { k = 0; ends = refl; more = omega arith; state = refl; left = refl }

  module _ (e : ℕ) (h r : List ℕ) (p : Hashing s e h r) where
    -- what is left is at most a block exactly where the next is the last
    pub hashing_left : length r ≡ length s - (e - 128)
    hashing_left = ap length p.left ∙ simp length-drop (omega (arith, p.ends))

    -- one more block, b, which is not the last
    pub hashing_block : e < length s → (b y : List ℕ) → b ≡ take 128 r → y ≡ F h (words b 0) e false → Hashing s (e + 128) y (drop 128 r)
    unfolding blocks
    hashing_block l b y q f =
        let n : ℕ = p.k in
        let t : (n + 1) * 128 ≡ e = omega (arith, p.ends) in
        let on : n * 128 + 128 ≡ (n + 1) * 128 = omega arith in
        let w : words b 0 ≡ words s (n * 128) = ap (λ (x : List ℕ). words x 0) (q ∙ ap (take 128) p.left) ∙ words_front s (n * 128) (omega (arith, p.ends)) in
        record {
          k = n + 1;
          ends = omega (arith, p.ends);
          more = omega (arith, p.ends);
          state = f ∙ rw (add-one, p.state, w, t);
          left = ap (drop 128) p.left ∙ drop-drop 128 (n * 128) s ∙ ap (λ (i : ℕ). drop i s) on;
        }

    -- the last block: what is left, and zeros
    pub hashing_last : length s ≤ e → (b : List ℕ) → b ≡ r ++ replicate (128 - length r) 0 → digest (F h (words b 0) (length s) true) ≡ blake2b s
    hashing_last l b q =
        let n : ℕ = p.k in
        let z : 128 - length r ≡ n * 128 + 128 - length s = omega (arith, p.ends, p.more, hashing_left) in
        whole_digest s start h b _ n (last_block (length s) n p.more (omega (arith, p.ends))) refl p.state (q ∙ rw (z, p.left)) refl
