-- The writes of a block in a row are one write of it. Assumes nothing.
use mathlib.Core.Path.{◌≡◌, refl, sym, ap, ◌∙◌}
use mathlib.Core.Bool.{◌&&◌}
use mathlib.Core.List.{List, [], ◌∷◌, ◌++◌}
use Prim.Native.Nat.{ℕ, ◌+◌, ◌-◌, ◌≤◌, ◌<◌}
use mir.Syntax.{w16}
use native.Mathlib.Omega.{arith}
use Rattle.std.specs.Int.{to_be_bytes}
use borrow.Author.Tests.{eq-eqb, le-leb}
use lib.Dec.{eqb, leb}
use lib.ListN.{length, take, drop, replicate, length-replicate}
use Rattle.wire.specs.Answer.{choose}
use Rattle.wire.specs.Number.{digits, big_endian}
use Rattle.wire.specs.Over.{over}
use Rattle.wire.proofs.Digits.{length_digits}
use Rattle.wire.proofs.Overs.{over_out, over_run, over_then, read_over}
use Rattle.crc.specs.Crc.{crc32}
use Rattle.model.specs.Book.{Slot, data_of}
use Rattle.block.specs.Block.{sealed, page_body, page_block, has_block, with_page, with_sum}
use Rattle.block.proofs.Lengths.{length_body, length_whole}

-- ---- numbers

two_bytes : (n : ℕ) → to_be_bytes w16 n ≡ big_endian 2 n
unfolding digits
two_bytes n = refl

-- ---- all before the checksum

pub front_laid : (at a b i s n : ℕ) (l w x y z : List ℕ) → at + 4 ≤ length l → n ≡ s
    → w ≡ over at (a ∷ []) l → x ≡ over (at + 1) (i ∷ []) w → y ≡ over (at + 2) (n ∷ []) x → z ≡ over (at + 3) (b ∷ []) y
    → z ≡ over at (a ∷ i ∷ s ∷ b ∷ []) l
front_laid at a b i s n l w x y z room en ew ex ey ez =
    let t = over_run at (at + 1) 1 1 (a ∷ []) (i ∷ []) l w x ex (ew, refl) refl refl (omega arith) in
    let u = over_run at (at + 2) 2 1 (a ∷ i ∷ []) (s ∷ []) l x y (ey ∙ rw en refl) t refl refl (omega arith) in
    (over_run at (at + 3) 3 1 (a ∷ i ∷ s ∷ []) (b ∷ []) l y z ez u refl refl (omega arith)).0

pub body_laid : (at : ℕ) (id : List ℕ) (i s : ℕ) (d ls l v w x y z : List ℕ) → (at + 508 ≤ length l) × (length id ≡ 8) × (length d ≤ 480)
    → v ≡ over at (0x50 ∷ i ∷ s ∷ 0 ∷ []) l → w ≡ over (at + 4) id v → ls ≡ to_be_bytes w16 (length d) → x ≡ over (at + 12) ls w → y ≡ over (at + 14) d x
    → z ≡ over (at + 14 + length d) (replicate (494 - length d) 0) y → z ≡ over at (page_body id i s d) l
unfolding page_body
body_laid at id i s d ls l v w x y z (room, eight, small) ev ew el fx ey ez =
    let n = length d in
    let ex : x ≡ over (at + 12) (big_endian 2 n) w = fx ∙ ap (λ (bs : List ℕ). over (at + 12) bs w) (el ∙ two_bytes n) in
    let f : List ℕ = 0x50 ∷ i ∷ s ∷ 0 ∷ [] in
    let t = over_run at (at + 4) 4 8 f id l v w ew (ev, refl) eight refl (omega arith) in
    let u = over_run at (at + 12) 12 2 (f ++ id) (big_endian 2 n) l w x ex t (length_digits 256 2 n) refl (omega arith) in
    let q = over_run at (at + 14) 14 n (f ++ id ++ big_endian 2 n) d l x y ey u refl refl (omega arith) in
    (over_run at (at + 14 + n) (14 + n) (494 - n) (f ++ id ++ big_endian 2 n ++ d) (replicate (494 - n) 0) l y z ez q (length-replicate (494 - n) 0) (omega arith)
    (omega arith)).0

-- ---- the checksum

pub sum_laid : (at : ℕ) (sum l y : List ℕ) → sum ≡ big_endian 4 (crc32 (take (at + 508 - at) (drop at l))) → y ≡ over (at + 508) sum l → y ≡ with_sum at l
unfolding with_sum
sum_laid at sum l y es ey =
    let e : at + 508 - at ≡ 508 = omega arith in
    ey ∙ rw (es, e)

-- where the block has no room, nothing changes
pub sum_out : (at : ℕ) (l : List ℕ) → length l < at + 512 → l ≡ with_sum at l
unfolding with_sum
sum_out at l h =
    let s : ℕ = crc32 (take 508 (drop at l)) in
    sym (over_out (at + 508) (big_endian 4 s) l (omega (arith, length_digits 256 4 s)))

-- a body that was written and then summed is written sealed
pub sealing : (at : ℕ) (body l x y : List ℕ) → length body ≡ 508 → at + 512 ≤ length l → x ≡ over at body l → y ≡ with_sum at x → y ≡ over at (sealed body) l
unfolding sealed with_sum
sealing at body l x y long room ex ey =
    let r : take 508 (drop at x) ≡ body = rw (ex, ← long) (read_over at body l (omega arith)) in
    let e : y ≡ over (at + 508) (big_endian 4 (crc32 body)) x = ey ∙ rw r in
    over_then at (at + 508) body (big_endian 4 (crc32 body)) l x y e ex (omega arith) (omega (arith, length_digits 256 4 (crc32 body)))

-- ---- the whole block

module _ (at : ℕ) (id : List ℕ) (i s : ℕ) (d l : List ℕ) where
  abbrev pub written : List ℕ
  written = choose (eqb (length id) 8 && leb (length d) 480) (over at (sealed (page_body id i s d)) l) l

  module _ (eight : length id ≡ 8) (small : length d ≤ 480) where
    write_out : length l < at + 512 → l ≡ written
    write_out h =
        rw (eq-eqb (length id) 8 eight, le-leb (length d) 480 small) (sym (over_out at (sealed (page_body id i s d)) l (omega (arith, length_whole id i s d eight small))))

    pub write_short : length l < 512 → l ≡ written
    write_short h = write_out (omega arith)

    pub write_far : length l - 512 < at → l ≡ written
    write_far h = write_out (omega arith)

    pub write_done : (x y : List ℕ) → 512 ≤ length l → at ≤ length l - 512 → x ≡ over at (page_body id i s d) l → y ≡ with_sum at x → y ≡ written
    write_done x y long room ex ey =
        sealing at (page_body id i s d) l x y (length_body id i s d eight small) (omega arith) ex ey
        ∙ rw (eq-eqb (length id) 8 eight, le-leb (length d) 480 small)

-- ---- for reuse

-- a block that there is, is written
pub with_page_lem : (at : ℕ) (id : List ℕ) (i : ℕ) (p : Slot) (out : List ℕ) → length id ≡ 8 → length (data_of p) ≤ 480 → with_page at id i p out ≡ over at (page_block id i p) out
unfolding with_page has_block
with_page_lem at id i p out eight small = rw (eq-eqb (length id) 8 eight, le-leb (length (data_of p)) 480 small)
