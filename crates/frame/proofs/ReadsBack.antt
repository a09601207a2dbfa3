-- What is laid out reads back: each field where it stands, and a frame as a whole. Assumes nothing.
use Prim.Native.Nat.{ℕ, ◌+◌, ◌-◌, ◌^◌, ◌<◌, ◌≤◌}
use mathlib.Core.Path.{◌≡◌, refl, sym, ap, ◌∙◌}
use mathlib.Core.Logic.{◌⊎◌}
use mathlib.Core.Bool.{true, false}
use mathlib.Core.List.{List, [], ◌∷◌, ◌++◌, append_assoc}
use native.Mathlib.Omega.{arith}
use borrow.Author.Tests.{le-ltb, lt-leb}
use lib.ListN.{length, take, drop, length-append}
use lib.Seq.{take_at, drop_at}
use Rattle.wire.specs.Answer.{choose, refused, got}
use Rattle.wire.specs.Number.{big_endian}
use Rattle.wire.proofs.Digits.{length_digits}
use Rattle.wire.proofs.Standing.{stands_next, stands_take, stands_left, stands_head}
use Rattle.lend.proofs.Sames.{same_refl}
use Rattle.varint.specs.Varint.{varint}
use Rattle.varint.proofs.Rounds.{reads_at}
use Rattle.mark.specs.Mark.{marked}
use Rattle.mark.proofs.Marks.{mark_length, mark_reads}
use Rattle.crc.specs.Crc.{crc32}
use Rattle.frame.specs.Frame.{Frame, magic, known, kind_at, id_at, start_of, numbers_at, data_at, in_place, in_size, judged, frame_of, id_of, data_of}
use Rattle.frame.specs.Layout.{start, numbers, body, layout}
use Rattle.frame.proofs.Lengths.{start_length, body_length, layout_length}
use Rattle.frame.specs.Allowed.{Kind, Allowed}
use Rattle.frame.proofs.Allowed.{known_yes, place_yes, place_past, place_several, size_yes, size_pages, size_data}
use Rattle.frame.proofs.Within.{data_stands}

module _ (s : List ℕ) (at : ℕ) (rest : List ℕ) where
  kind_reads : (kind : ℕ) → known kind ≡ true → drop at s ≡ kind ∷ rest → kind_at s at ≡ got kind (at + 1)
  unfolding kind_at
  kind_reads kind k h =
      rw (lt-leb (length s) at (omega (arith, stands_left s at (kind ∷ []) rest h)), stands_head s at kind rest h, k)

  id_reads : (id : List ℕ) → length id ≡ 8 → drop at s ≡ id ++ rest → id_at s at ≡ got tt (at + 8)
  unfolding id_at
  id_reads id e h = rw (le-ltb (length s - at) 8 (omega (arith, stands_left s at id rest h)))

  numbers_reads : (index total len : ℕ) → index < 2 ^ 64 → total < 2 ^ 64 → len < 2 ^ 64 → drop at s ≡ numbers index total len ++ rest
      → numbers_at s at ≡ got (record { index = index; total = total; len = len }) (at + length (numbers index total len))
  unfolding numbers_at numbers
  numbers_reads index total len i t l h =
      let h₁ : drop at s ≡ varint index ++ (varint total ++ (varint len ++ rest)) = h ∙ simp append_assoc in
      let h₂ = stands_next s at (varint index) (varint total ++ (varint len ++ rest)) h₁ in
      let h₃ = stands_next s (at + length (varint index)) (varint total) (varint len ++ rest) h₂ in
      rw (reads_at s _ at index i h₁, reads_at s _ (at + length (varint index)) total t h₂, reads_at s rest (at + length (varint index) + length (varint total)) len l h₃)
      (ap (got (record { index = index; total = total; len = len })) (simp length-append (omega arith)))

start_reads : (kind : ℕ) (id s rest : List ℕ) → known kind ≡ true → length id ≡ 8 → s ≡ start kind id ++ rest → start_of s ≡ got kind 12
unfolding start_of start
start_reads kind id s rest k e h =
    let h₀ : s ≡ marked magic ++ (kind ∷ (id ++ rest)) = h ∙ simp append_assoc in
    let h₁ : drop 3 s ≡ kind ∷ (id ++ rest) = ap (drop 3) h₀ ∙ drop_at (marked magic) (kind ∷ (id ++ rest)) 3 (mark_length magic) in
    let h₂ : drop 4 s ≡ id ++ rest = stands_next s 3 (kind ∷ []) (id ++ rest) h₁ in
    rw (mark_reads magic s _ h₀, kind_reads s 3 _ kind k h₁, id_reads s 4 rest id e h₂)

data_reads : (s : List ℕ) (at : ℕ) (contents : List ℕ) → drop at s ≡ contents ++ big_endian 4 (crc32 (take (at + length contents) s))
    → data_at s at (length contents) ≡ got tt (at + length contents + 4)
data_reads s at contents h =
    let sum : List ℕ = big_endian 4 (crc32 (take (at + length contents) s)) in
    let left = stands_left s at contents sum h in
    let four = length_digits 256 4 (crc32 (take (at + length contents) s)) in
    sym (data_stands s at (length contents) (omega arith) (rw (stands_next s at contents sum h) (same_refl sum)))

-- ---- the frame as a whole

-- where the data of a frame start
abbrev pub data_place : ℕ → ℕ → List ℕ → ℕ
data_place index total contents = 12 + length (numbers index total (length contents))

abbrev pub framed : ℕ → ℕ → ℕ → List ℕ → Frame
framed kind index total contents =
    record { kind = kind; index = index; total = total; at = record { start = data_place index total contents; len = length contents } }

-- magic, version and type take four bytes, and the id stands behind them
start_id : (kind : ℕ) (id rest : List ℕ) → length id ≡ 8 → id_of (start kind id ++ rest) ≡ id
unfolding start
start_id kind id rest e =
    let four : length (marked magic ++ (kind ∷ [])) ≡ 4 = simp (length-append, mark_length magic) in
    ap (λ (l : List ℕ). take 8 (drop 4 l)) (append_assoc (marked magic ++ (kind ∷ [])) id rest)
    ∙ ap (take 8) (drop_at (marked magic ++ (kind ∷ [])) (id ++ rest) 4 four)
    ∙ take_at id rest 8 e

regroup : (a b c d : List ℕ) → a ++ b ++ c ++ d ≡ a ++ (b ++ (c ++ d))
regroup a b c d = simp append_assoc

module _ (kind : ℕ) (id : List ℕ) (index total : ℕ) (contents : List ℕ) where
  abbrev sum : List ℕ
  sum = big_endian 4 (crc32 (body kind id index total contents))

  abbrev whole : List ℕ
  whole = layout kind id index total contents

  parted : whole ≡ start kind id ++ (numbers index total (length contents) ++ (contents ++ sum))
  unfolding layout body
  parted = regroup (start kind id) (numbers index total (length contents)) contents sum

  module _ (eight : length id ≡ 8) where
    after_start : drop 12 whole ≡ numbers index total (length contents) ++ (contents ++ sum)
    after_start = ap (drop 12) parted ∙ drop_at (start kind id) (numbers index total (length contents) ++ (contents ++ sum)) 12 (start_length kind id eight)

    after_numbers : drop (data_place index total contents) whole ≡ contents ++ sum
    after_numbers = stands_next whole 12 (numbers index total (length contents)) (contents ++ sum) after_start

    summed : take (data_place index total contents + length contents) whole ≡ body kind id index total contents
    unfolding layout
    summed = take_at (body kind id index total contents) sum (data_place index total contents + length contents) (body_length kind id index total contents eight)

    -- the parts stand where the reader looks for them
    pub layout_id : id_of whole ≡ id
    layout_id = ap id_of parted ∙ start_id kind id (numbers index total (length contents) ++ (contents ++ sum)) eight

    pub layout_data : data_of whole (framed kind index total contents) ≡ contents
    layout_data = stands_take whole (data_place index total contents) contents sum after_numbers

    -- of a layout with a known type, 8 and 9 alone are left to judge
    pub layout_judged : known kind ≡ true → index < 2 ^ 64 → total < 2 ^ 64 → length contents < 2 ^ 64 → frame_of whole
        ≡ choose (in_place kind index total)
        (choose (in_size total (length contents)) (got (framed kind index total contents) (length whole)) (refused 9))
        (refused 8)
    unfolding frame_of judged
    layout_judged k i t l =
        let d : data_at whole (data_place index total contents) (length contents) ≡ got tt (length whole) =
        data_reads whole (data_place index total contents) contents (after_numbers ∙ ap (λ (b : List ℕ). contents ++ big_endian 4 (crc32 b)) (sym summed))
        ∙ ap (got tt) (omega (arith, layout_length kind id index total contents eight)) in
        rw (start_reads kind id whole _ k eight parted, numbers_reads whole 12 _ index total (length contents) i t l after_start, d)

-- a list of bytes is read as a frame of these parts
pub record ReadsAs (s : List ℕ) (kind : ℕ) (id : List ℕ) (index total : ℕ) (contents : List ℕ) : Type 0 where
  pub frame : Frame
  pub read : frame_of s ≡ got frame (length s)
  pub kind_is : frame.kind ≡ kind
  pub index_is : frame.index ≡ index
  pub total_is : frame.total ≡ total
  pub id_is : id_of s ≡ id
  pub data_is : data_of s frame ≡ contents

-- from a layout the reader gets the parts back, whichever the rules allow
pub reads_back : (kind : ℕ) (id : List ℕ) (index total : ℕ) (contents : List ℕ) → Allowed kind id index total contents
    → ReadsAs (layout kind id index total contents) kind id index total contents
reads_back kind id index total contents a =
    record {
      frame = framed kind index total contents;
      read =
          layout_judged kind id index total contents a.eight (known_yes kind a.type) (omega (arith, a.below, a.pages)) (omega (arith, a.pages))
          (omega (arith, a.short))
          ∙ rw (place_yes kind index total a.below a.single, size_yes total (length contents) a.pages a.short);
      kind_is = refl;
      index_is = refl;
      total_is = refl;
      id_is = layout_id kind id index total contents a.eight;
      data_is = layout_data kind id index total contents a.eight;
    }

-- and is refused where they do not: 8 for its place, then 9 for its size
module _ (kind : ℕ) (id : List ℕ) (index total : ℕ) (contents : List ℕ) (k : Kind kind) (eight : length id ≡ 8) (i : index < 2 ^ 64) (t : total < 2 ^ 64) (l : length contents < 2 ^ 64) where
  judged_8 : in_place kind index total ≡ false → frame_of (layout kind id index total contents) ≡ refused 8
  judged_8 h = layout_judged kind id index total contents eight (known_yes kind k) i t l ∙ rw h

  judged_9 : index < total → (kind ≡ 0x44) ⊎ (total ≡ 1) → in_size total (length contents) ≡ false → frame_of (layout kind id index total contents) ≡ refused 9
  judged_9 b o h = layout_judged kind id index total contents eight (known_yes kind k) i t l ∙ rw (place_yes kind index total b o, h)

  -- For the reader: 8 where the index is not below the total
  pub refused_past : total ≤ index → frame_of (layout kind id index total contents) ≡ refused 8
  refused_past h = judged_8 (place_past kind index total h)

  -- For the reader: 8 where a key or auth frame is not one of one
  pub refused_several : (kind ≡ 0x44 → ⊥) → (total ≡ 1 → ⊥) → frame_of (layout kind id index total contents) ≡ refused 8
  refused_several n h = judged_8 (place_several kind index total n h)

  -- For the reader: 9 for more than 96 pages
  pub refused_pages : index < total → (kind ≡ 0x44) ⊎ (total ≡ 1) → 96 < total → frame_of (layout kind id index total contents) ≡ refused 9
  refused_pages b o h = judged_9 b o (size_pages total (length contents) h)

  -- For the reader: 9 for more than 480 bytes of data
  pub refused_data : index < total → (kind ≡ 0x44) ⊎ (total ≡ 1) → 480 < length contents → frame_of (layout kind id index total contents) ≡ refused 9
  refused_data b o h = judged_9 b o (size_data total (length contents) h)
