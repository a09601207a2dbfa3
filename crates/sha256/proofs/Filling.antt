-- The schedule, which a loop fills from the front, and the words that its turns read.
-- Assumes nothing.
use mathlib.Core.Path.{◌≡◌, refl, ap, ◌∙◌}
use mathlib.Core.List.{List, ◌∷◌}
use Prim.Native.Nat.{ℕ, suc, ◌+◌, ◌-◌, ◌*◌, ◌≤◌, ◌<◌}
use native.Mathlib.Numerals.{add-one}
use native.Mathlib.Nat.{zero-add}
use native.Mathlib.Omega.{arith}
use borrow.Author.Tests.{lt-ltb, le-ltb}
use lib.ListN.{length, get_or, take, drop, set, length-drop}
use lib.Seq.{take-suc-set, take_all, get_or-take, drop-cons, length-take-le}
use Rattle.std.specs.Simd.{first_chunks}
use Rattle.std.specs.Int.{w32, from_be_bytes}
use Rattle.wire.specs.Number.{number, number_from}
use Rattle.bits.proofs.Chunks.{chunk}
use Rattle.sha256.specs.Message.{word}
use Rattle.sha256.specs.Sha.{next, entry, schedule}

-- four bytes as a number
drop_next : (l : List ℕ) (i j : ℕ) → j ≡ suc i → i < length l → drop i l ≡ get_or l i 0 ∷ drop j l
drop_next l i j e h = rw e (drop-cons l i 0 h)

pub four : (l : List ℕ) (i x y z w : ℕ) → i + 4 ≤ length l → x ≡ get_or l i 0 → y ≡ get_or l (i + 1) 0 → z ≡ get_or l (i + 2) 0 → w ≡ get_or l (i + 3) 0
    → ((x * 256 + y) * 256 + z) * 256 + w ≡ number 256 (take 4 (drop i l))
unfolding number_from
four l i x y z w h ex ey ez ew =
    rw (
      drop_next l i (i + 1) (omega arith) (omega arith),
      drop_next l (i + 1) (i + 2) (omega arith) (omega arith),
      drop_next l (i + 2) (i + 3) (omega arith) (omega arith),
      drop_next l (i + 3) (i + 4) (omega arith) (omega arith),
      zero-add,
    ) (cc)

pub number_be : (b : List ℕ) → length b ≡ 4 → from_be_bytes w32 b ≡ number 256 b
number_be b l =
    let e : from_be_bytes w32 b ≡ ((get_or b 0 0 * 256 + get_or b 1 0) * 256 + get_or b 2 0) * 256 + get_or b 3 0 = omega arith in
    e ∙ four b 0 _ _ _ _ (omega arith) refl refl refl refl ∙ ap (number 256) (take_all 4 b (omega arith))

pub word_read : (b : List ℕ) (ws : List (List ℕ)) (d : List ℕ) (k t x : ℕ) → ws ≡ first_chunks 4 k b → t < k → t * 4 + 4 ≤ length b
    → x ≡ from_be_bytes w32 (get_or ws t d) → x ≡ number 256 (take 4 (drop (t * 4) b))
word_read b ws d k t x w h f e =
    let m : List ℕ = take 4 (drop (t * 4) b) in
    let g : 4 ≤ length (drop (t * 4) b) = simp length-drop (omega arith) in
    let p : get_or ws t d ≡ m = ap (λ (y : List (List ℕ)). get_or y t d) w ∙ chunk 4 k t b d h in
    e ∙ ap (from_be_bytes w32) p ∙ number_be m (length-take-le 4 (drop (t * 4) b) g)

-- the schedule of the block b, one word more: of the block's own, and from the words before it
pub words_more : (b w : List ℕ) (t x : ℕ) → t < 16 → t < length w → take t w ≡ schedule t b
    → x ≡ number 256 (take 4 (drop (t * 4) b)) → take (t + 1) (set w t x) ≡ schedule (t + 1) b
unfolding schedule entry word
words_more b w t x l h e ex = rw (add-one, lt-ltb t 16 l) (take-suc-set w t x h ∙ cc)

pub next_more : (w m : List ℕ) (t x : ℕ) → 16 ≤ t → t < length w → take t w ≡ schedule t m → x ≡ next t w → take (t + 1) (set w t x) ≡ schedule (t + 1) m
unfolding schedule entry next
next_more w m t x l h e ex =
    let e2 = get_or-take t w (t - 2) 0 (omega arith) in
    let e7 = get_or-take t w (t - 7) 0 (omega arith) in
    let e15 = get_or-take t w (t - 15) 0 (omega arith) in
    let e16 = get_or-take t w (t - 16) 0 (omega arith) in
    rw (add-one, le-ltb t 16 l) (take-suc-set w t x h ∙ cc)
