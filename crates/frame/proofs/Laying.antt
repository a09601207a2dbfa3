-- The writes of a frame in a row are one write of its layout. Assumes nothing.
use Prim.Native.Nat.{ℕ, ◌+◌, ◌<◌, ◌≤◌}
use mathlib.Core.Path.{◌≡◌, refl, sym, ◌∙◌}
use mathlib.Core.List.{List, [], ◌∷◌, ◌++◌}
use native.Mathlib.Omega.{arith}
use lib.ListN.{length, take}
use Rattle.wire.specs.Number.{big_endian}
use Rattle.wire.specs.Over.{over}
use Rattle.wire.specs.Answer.{done}
use Rattle.wire.specs.Writing.{Written}
use Rattle.std.specs.Prelude.{Ok, Err}
use Rattle.wire.specs.declared.Refusal.TheVariants.{NoRoom}
use Rattle.wire.proofs.Digits.{length_digits}
use Rattle.wire.proofs.Overs.{over_run, over_append, read_over}
use Rattle.wire.proofs.Writes.{written, no_room}
use Rattle.varint.specs.Varint.{varint}
use Rattle.mark.specs.Mark.{marked}
use Rattle.mark.proofs.Marks.{mark_length}
use Rattle.crc.specs.Crc.{crc32}
use Rattle.frame.specs.Frame.{magic}
use Rattle.frame.specs.Layout.{start, numbers, body, layout}
use Rattle.frame.proofs.Lengths.{start_length, numbers_length, body_length, layout_length}

-- magic and version, type and id
pub start_laid : (kind : ℕ) (id l x y z : List ℕ) → length id ≡ 8 → 12 ≤ length l
    → x ≡ over 0 (marked magic) l → y ≡ over 3 (kind ∷ []) x → z ≡ over 4 id y → z ≡ over 0 (start kind id) l
unfolding start
start_laid kind id l x y z eight room ex ey ez =
    let t = over_run 0 3 3 1 (marked magic) (kind ∷ []) l x y ey (ex, mark_length magic) refl refl (omega arith) in
    (over_run 0 4 4 8 (marked magic ++ (kind ∷ [])) id l y z ez t eight refl (omega arith)).0

-- the varints, each where the one before it ended
pub numbers_laid : (index total len at : ℕ) (l x y z : List ℕ) (a b n : ℕ) → at + length (numbers index total len) ≤ length l
    → (a ≡ at + length (varint index)) × (x ≡ over at (varint index) l)
    → (b ≡ a + length (varint total)) × (y ≡ over a (varint total) x)
    → (n ≡ b + length (varint len)) × (z ≡ over b (varint len) y)
    → (n ≡ at + length (numbers index total len)) × (z ≡ over at (numbers index total len) l)
unfolding numbers
numbers_laid index total len at l x y z a b n room (ea, ex) (eb, ey) (en, ez) =
    let long = numbers_length index total len in
    let t = over_run at a (length (varint index)) (length (varint total)) (varint index) (varint total) l x y ey (ex, refl) refl ea (omega arith) in
    let u =
    over_run at b (length (varint index) + length (varint total)) (length (varint len)) (varint index ++ varint total) (varint len) l y z ez t refl (omega arith)
    (omega arith) in
    (omega arith, u.0)

module _ (kind : ℕ) (id : List ℕ) (index total : ℕ) (contents l : List ℕ) (eight : length id ≡ 8) where
  -- all before the CRC
  pub body_laid : (x y z : List ℕ) (n : ℕ) → 12 + length (numbers index total (length contents)) + length contents ≤ length l
      → x ≡ over 0 (start kind id) l
      → (n ≡ 12 + length (numbers index total (length contents))) × (y ≡ over 12 (numbers index total (length contents)) x)
      → z ≡ over n contents y
      → (n + length contents ≡ length (body kind id index total contents)) × (z ≡ over 0 (body kind id index total contents) l)
  unfolding body
  body_laid x y z n room ex (en, ey) ez =
      let k = body_length kind id index total contents eight in
      let t = over_run 0 12 12 (length (numbers index total (length contents))) (start kind id) (numbers index total (length contents)) l x y ey (ex, start_length kind id eight) refl refl (omega arith) in
      let u = over_run 0 n n (length contents) (start kind id ++ numbers index total (length contents)) contents l y z ez (t.0, t.1 ∙ sym en) refl (omega arith) (omega arith) in
      (sym u.1, u.0)

  -- m is how many bytes the varints take
  module _ (m : ℕ) (e : m ≡ length (numbers index total (length contents))) where
    -- there is no room for the whole
    pub lay_short : length l < 16 + m + length contents → Written 0 (done (layout kind id index total contents)) l l (Err NoRoom)
    lay_short h = no_room 0 l (layout kind id index total contents) (omega (arith, layout_length kind id index total contents eight))

    -- there is: x is l with all before the CRC, y is x with the CRC, and what is summed is what was
    -- written
    pub lay_done : 16 + m + length contents ≤ length l → (x y : List ℕ) (k : ℕ)
        → (k ≡ length (body kind id index total contents)) × (x ≡ over 0 (body kind id index total contents) l)
        → y ≡ over k (big_endian 4 (crc32 (take k x))) x
        → Written 0 (done (layout kind id index total contents)) l y (Ok (16 + m + length contents))
    unfolding layout
    lay_done h x y k laid ey =
        let bs : List ℕ = body kind id index total contents in
        let long = body_length kind id index total contents eight in
        let whole = layout_length kind id index total contents eight in
        let fits : 0 + length bs ≤ length l = omega arith in
        let summed : take k x ≡ bs = rw (laid.0, laid.1) (read_over 0 bs l fits) in
        let four = length_digits 256 4 (crc32 bs) in
        let one : y ≡ over 0 (bs ++ big_endian 4 (crc32 bs)) l =
        ey ∙ rw (summed, laid.1) (over_append 0 bs (big_endian 4 (crc32 bs)) l k (omega (arith, laid.0)) (omega (arith, laid.0))) in
        written 0 l (layout kind id index total contents) y (16 + m + length contents) (omega arith) (omega arith) one
