-- How long a layout is, and that the writes of its fields in a row are one write of it.
-- Assumes nothing.
use Prim.Native.Nat.{ℕ, ◌+◌, ◌^◌, ◌<◌, ◌≤◌}
use mathlib.Core.Path.{◌≡◌, refl}
use mathlib.Core.List.{List, ◌++◌}
use native.Mathlib.Omega.{arith}
use mir.Syntax.{w64}
use mir.Val.{Fits}
use lib.ListN.{length, length-append}
use Rattle.wire.specs.Over.{over}
use Rattle.wire.specs.Answer.{done, Answer, Kept}
use Rattle.wire.specs.Writing.{Written, writing}
use Rattle.std.specs.Prelude.{Ok, Err}
use Rattle.wire.specs.declared.Refusal.TheVariants.{NoRoom}
use Rattle.wire.proofs.Overs.{over_run}
use Rattle.wire.proofs.Writes.{written, no_room, written_over}
use Rattle.varint.specs.Varint.{varint}
use Rattle.mark.specs.Mark.{marked}
use Rattle.mark.proofs.Marks.{mark_length}
use Rattle.cover.specs.Cover.{magic, chunk_of, cover_of}

pub chunk_length : (bs : List ℕ) → length (chunk_of bs) ≡ length (varint (length bs)) + length bs
unfolding chunk_of
chunk_length bs = length-append (varint (length bs)) bs

pub cover_length : (m p : List ℕ) → length (cover_of m p) ≡ 3 + length (chunk_of m) + length (chunk_of p)
unfolding cover_of
cover_length m p = simp (length-append, mark_length magic)

-- for `search`: the sums of the code
module _ (bs : List ℕ) (at k room : ℕ) (e : k ≡ length (varint (length bs))) (h : at + length (chunk_of bs) ≤ room) (b : room < 2 ^ 64) where
  pub start_fits : Fits w64 (at + k)
  start_fits = record { fits = omega (arith, chunk_length bs) }

  pub end_fits : Fits w64 (at + k + length bs)
  end_fits = record { fits = omega (arith, chunk_length bs) }

-- ---- the writes

-- k is how many bytes the length takes
pub chunk_laid : (bs l x y : List ℕ) (at k : ℕ) {a : Answer ℕ} → at + length (chunk_of bs) ≤ length l → Kept (writing at l (done (varint (length bs)))) l x a
    → k ≡ length (varint (length bs)) → y ≡ over (at + k) bs x → (at + k + length bs ≡ at + length (chunk_of bs)) × (y ≡ over at (chunk_of bs) l)
unfolding chunk_of
chunk_laid bs l x y at k room w e ey =
    let n = chunk_length bs in
    let v : List ℕ = varint (length bs) in
    let t = over_run at (at + k) (length v) (length bs) v bs l x y ey (written_over at v l x w, refl) refl (omega arith) (omega arith) in
    (omega arith, t.0)

module _ (m p l : List ℕ) where
  pub cover_laid : length (cover_of m p) ≤ length l → (x y z : List ℕ) (a b : ℕ) → x ≡ over 0 (marked magic) l
      → (a ≡ 3 + length (chunk_of m)) × (y ≡ over 3 (chunk_of m) x) → (b ≡ a + length (chunk_of p)) × (z ≡ over a (chunk_of p) y)
      → (b ≡ length (cover_of m p)) × (z ≡ over 0 (cover_of m p) l)
  unfolding cover_of
  cover_laid room x y z a b ex (ea, ey) (eb, ez) =
      let n = cover_length m p in
      let t = over_run 0 3 3 (length (chunk_of m)) (marked magic) (chunk_of m) l x y ey (ex, mark_length magic) refl refl (omega arith) in
      let u =
      over_run 0 a (3 + length (chunk_of m)) (length (chunk_of p)) (marked magic ++ chunk_of m) (chunk_of p) l y z ez t refl (omega arith) (omega arith) in
      (omega arith, u.0)

  -- i and j are how many bytes the lengths take
  module _ (i j : ℕ) (ei : i ≡ length (varint (length m))) (ej : j ≡ length (varint (length p))) where
    -- the parts are longer than what the heads leave
    pub lay_short : length l < 3 + i + j + length m + length p → Written 0 (done (cover_of m p)) l l (Err NoRoom)
    lay_short h = no_room 0 l (cover_of m p) (omega (arith, cover_length m p, chunk_length m, chunk_length p))

    pub lay_fits : 3 + i + j + length m + length p ≤ length l → length (cover_of m p) ≤ length l
    lay_fits h = omega (arith, cover_length m p, chunk_length m, chunk_length p)

    pub lay_done : 3 + i + j + length m + length p ≤ length l → (z : List ℕ) (n : ℕ) → (n ≡ length (cover_of m p)) × (z ≡ over 0 (cover_of m p) l)
        → Written 0 (done (cover_of m p)) l z (Ok n)
    lay_done h z n (e, o) = written 0 l (cover_of m p) z n (omega (arith, lay_fits h)) e o
